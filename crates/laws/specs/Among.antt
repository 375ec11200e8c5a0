-- Whether a list has a number, whether all of its numbers pass a test, and whether it has none.
use Rattle.std.specs.Prelude.{ℕ, ◌≡◌, refl, List, [], ◌∷◌, Bool, true, false, ◌||◌, ◌&&◌, eqb}
use Rattle.std.proofs.Common.{subst, sym, eqb-true}
use Rattle.std.proofs.lemmas.Bool.{false≢true}
use Rattle.laws.specs.Tests.{and_left, and_right}

abbrev pub among : ℕ → List ℕ → Bool
among b [] = false
among b (c ∷ cs) = eqb b c || among b cs

abbrev pub all : (ℕ → Bool) → List ℕ → Bool
all p [] = true
all p (b ∷ bs) = p b && all p bs

abbrev pub is_nil : List ℕ → Bool
is_nil [] = true
is_nil (b ∷ bs) = false

-- a test that all pass, each that is among them passes
pub each : (p : ℕ → Bool) (b : ℕ) (l : List ℕ) → all p l ≡ true → among b l ≡ true → p b ≡ true
each p b [] h i = absurd (false≢true i)
each p b (c ∷ l) h i = by (eqb b c) refl i (each p b l (and_right (p c) (all p l) h))
  where
    by : (t : Bool) → eqb b c ≡ t → (t || among b l) ≡ true → (among b l ≡ true → p b ≡ true) → p b ≡ true
    by true e i k = subst (λ (x : ℕ). p x ≡ true) (sym (eqb-true b c e)) (and_left (p c) (all p l) h)
    by false e i k = k i
