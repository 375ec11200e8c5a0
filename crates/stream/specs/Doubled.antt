-- Laws of doubled quotes (02, viii): of bytes in two parts, of one byte and of one byte more; that the bytes are at most twice as many; that
-- bytes with no quote among them stay as they are; and how a byte that is no quote is poured.
use Rattle.std.specs.Prelude.{ℕ, ◌*◌, ◌≤◌, ◌≡◌, refl, List, [], ◌∷◌, ◌++◌, Bool, true, false, cond, ◌||◌, eqb, length}
use Rattle.std.proofs.Common.{arith, ap, sym, eq-eqb, ne_eqb}
use Rattle.std.proofs.lemmas.Bool.{false≢true}
use Rattle.laws.specs.Text.{ascii}
use Rattle.stream.specs.Sink.{State, most, pour, doubled}
use Rattle.stream.specs.Laws.{pour_none}

-- a case: one quote inside, and one at the end
pub doubled_case : doubled (ascii "it's '") ≡ ascii "it''s ''"
unfolding doubled
doubled_case = refl

-- two parts
pub doubled_append : (a b : List ℕ) → doubled (a ++ b) ≡ doubled a ++ doubled b
unfolding doubled
doubled_append [] b = refl
doubled_append (x ∷ a) b = by (eqb x 0x27) (doubled_append a b)
  where
    by : (t : Bool) → doubled (a ++ b) ≡ doubled a ++ doubled b → cond t (x ∷ x ∷ doubled (a ++ b)) (x ∷ doubled (a ++ b)) ≡ cond t (x ∷ x ∷ doubled a) (x ∷ doubled a) ++ doubled b
    by true e = ap (λ (l : List ℕ). x ∷ x ∷ l) e
    by false e = ap (λ (l : List ℕ). x ∷ l) e

-- one byte
pub doubled_quote : (b : ℕ) → b ≡ 0x27 → doubled (b ∷ []) ≡ b ∷ b ∷ []
unfolding doubled
doubled_quote b e = rw (eq-eqb b 0x27 e)

pub doubled_other : (b : ℕ) → (b ≡ 0x27 → ⊥) → doubled (b ∷ []) ≡ b ∷ []
unfolding doubled
doubled_other b n = rw (ne_eqb b 0x27 n)

-- the bytes are at most twice as many
pub doubled_length : (x : List ℕ) → length (doubled x) ≤ 2 * length x
unfolding doubled
doubled_length [] = omega arith
doubled_length (b ∷ x) = by (eqb b 0x27) (doubled_length x)
  where
    by : (t : Bool) → length (doubled x) ≤ 2 * length x → length (cond t (b ∷ b ∷ doubled x) (b ∷ doubled x)) ≤ 2 * length (b ∷ x)
    by true h = omega arith
    by false h = omega arith

-- bytes with no quote among them
unfoldable pub has_quote : List ℕ → Bool
has_quote [] = false
has_quote (b ∷ x) = eqb b 0x27 || has_quote x

pub doubled_none : (x : List ℕ) → has_quote x ≡ false → doubled x ≡ x
unfolding doubled has_quote
doubled_none [] e = refl
doubled_none (b ∷ x) e = by (eqb b 0x27) e (doubled_none x)
  where
    by : (t : Bool) → t || has_quote x ≡ false → (has_quote x ≡ false → doubled x ≡ x) → cond t (b ∷ b ∷ doubled x) (b ∷ doubled x) ≡ b ∷ x
    by true q f = absurd (false≢true (sym q))
    by false q f = ap (λ (l : List ℕ). b ∷ l) (f q)

-- a byte is poured, and a quote once more
pub byte_once : (st t : State) (b : ℕ) → (b ≡ 0x27 → ⊥) → t ≡ pour st (b ∷ []) → t ≡ pour st (doubled (b ∷ []))
byte_once st t b n p = rw (doubled_other b n) p

-- one byte behind the other
pub none_poured : (st : State) → st.0.at ≤ most → st ≡ pour st (doubled [])
unfolding doubled
none_poured st h = sym (pour_none st h)
