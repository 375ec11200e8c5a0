-- Two words are the same if they are as long and no byte of them differs.
use Rattle.std.specs.Prelude.{ℕ, suc, ◌+◌, ◌<◌, ◌≡◌, refl, List, [], ◌∷◌, Bool, true, false, length, get_or, eqb}
use Rattle.std.proofs.Common.{arith, ap, eqb-true, eq-eqb}
use Rattle.std.proofs.lemmas.Bool.{eqb-false}
use Rattle.laws.specs.Bytes.{same, equal}

pub other_length : (a b : List ℕ) → (length a ≡ length b → ⊥) → false ≡ same a b
other_length a b h = by (same a b) refl
  where
    by : (c : Bool) → same a b ≡ c → false ≡ c
    by true e = absurd (h (ap length (equal a b e)))
    by false e = refl

pub other_byte : (a b : List ℕ) (i : ℕ) → (get_or a i 0 ≡ get_or b i 0 → ⊥) → false ≡ same a b
other_byte a b i h = by (same a b) refl
  where
    by : (c : Bool) → same a b ≡ c → false ≡ c
    by true e = absurd (h (ap (λ (s : List ℕ). get_or s i 0) (equal a b e)))
    by false e = refl

pub all_same : (a b : List ℕ) → length a ≡ length b → ((j : ℕ) → j < length a → get_or a j 0 ≡ get_or b j 0) → true ≡ same a b
all_same [] [] l h = refl
all_same [] (y ∷ b) l h = absurd (omega arith)
all_same (x ∷ a) [] l h = absurd (omega arith)
all_same (x ∷ a) (y ∷ b) l h = rw (eq-eqb x y (h 0 (omega arith))) (all_same a b (omega arith) (λ j k. h (suc j) (omega arith)))

-- one more byte is the same
pub more_same : (a b : List ℕ) (i : ℕ) → get_or a i 0 ≡ get_or b i 0 → ((j : ℕ) → j < i → get_or a j 0 ≡ get_or b j 0) → (j : ℕ) → j < i + 1 → get_or a j 0 ≡ get_or b j 0
more_same a b i e h j l = by (eqb j i) refl
  where
    by : (c : Bool) → eqb j i ≡ c → get_or a j 0 ≡ get_or b j 0
    by true q = rw (eqb-true j i q) e
    by false q = let n = eqb-false j i q in h j (omega arith)
