-- Laws of lines and columns: of bytes in two parts, of bytes with no newline, and that the column is what stands behind the last newline.
use Rattle.std.specs.Prelude.{ℕ, ◌+◌, ◌≤◌, ◌≡◌, refl, List, [], ◌∷◌, ◌++◌, Bool, true, false, cond, eqb, length}
use Rattle.std.proofs.Common.{arith, ◌∙◌}
use Rattle.position.specs.Position.{newline, lines, next, column}

-- ---- two parts
pub lines_append : (a b : List ℕ) → lines (a ++ b) ≡ lines a + lines b
unfolding lines
lines_append [] b = omega arith
lines_append (x ∷ a) b = omega (arith, lines_append a b)

pub column_append : (c : ℕ) (a b : List ℕ) → column c (a ++ b) ≡ column (column c a) b
unfolding column
column_append c [] b = refl
column_append c (x ∷ a) b = column_append (next c x) a b

-- ---- neither is more than the bytes
at_most_one : (x : ℕ) → newline x ≤ 1
at_most_one x = by (eqb x 0x0A)
  where
    by : (t : Bool) → cond t 1 0 ≤ 1
    by true = omega arith
    by false = omega arith

pub lines_length : (s : List ℕ) → lines s ≤ length s
unfolding lines
lines_length [] = omega arith
lines_length (x ∷ s) = omega (arith, lines_length s, at_most_one x)

pub one_more : (c x : ℕ) → next c x ≤ c + 1
one_more c x = by (eqb x 0x0A)
  where
    by : (t : Bool) → cond t 0 (c + 1) ≤ c + 1
    by true = omega arith
    by false = omega arith

-- ---- no newline: the column goes on
pub column_on : (c : ℕ) (s : List ℕ) → lines s ≡ 0 → column c s ≡ c + length s
unfolding column lines
column_on c [] e = omega arith
column_on c (x ∷ s) e = by (eqb x 0x0A) refl (column_on (c + 1) s)
  where
    by : (t : Bool) → eqb x 0x0A ≡ t → (lines s ≡ 0 → column (c + 1) s ≡ c + 1 + length s) → column (next c x) s ≡ c + length (x ∷ s)
    by true q f = let z : newline x ≡ 1 = rw q in absurd (omega arith)
    by false q f =
        let z : newline x ≡ 0 = rw q in
        rw q (omega (arith, f (omega arith)))

-- some: where they began does not matter
pub column_anew : (c d : ℕ) (s : List ℕ) → (lines s ≡ 0 → ⊥) → column c s ≡ column d s
unfolding column lines
column_anew c d [] h = absurd (h refl)
column_anew c d (x ∷ s) h = by (eqb x 0x0A) refl (column_anew (next c x) (next d x) s)
  where
    by : (t : Bool) → eqb x 0x0A ≡ t → ((lines s ≡ 0 → ⊥) → column (next c x) s ≡ column (next d x) s) → column (next c x) s ≡ column (next d x) s
    by true q f = rw q
    by false q f =
        let z : newline x ≡ 0 = rw q in
        f (λ e. h (omega arith))

-- "the bytes since the last newline": those behind a newline, if there is none among them
pub column_behind : (c : ℕ) (a s : List ℕ) → lines s ≡ 0 → column c (a ++ (0x0A ∷ s)) ≡ length s
unfolding column
column_behind c a s e = column_append c a (0x0A ∷ s) ∙ column_on 0 s e ∙ omega arith
