-- "The first fitting": of a list of conditions with what each is answered by, the first that holds.
use Rattle.std.specs.Prelude.{◌≡◌, refl, List, [], ◌∷◌, Bool, true, false, cond}
use Rattle.std.proofs.Common.{sym}

abbrev pub first : {A : Type 0} → List (Bool × A) → A → A
first [] other = other
first (c ∷ cs) other = cond c.0 c.1 (first cs other)

-- the same conditions, with each answer in a constructor
abbrev pub within : {A B : Type 0} → (A → B) → List (Bool × A) → List (Bool × B)
within f [] = []
within f (c ∷ cs) = (c.0, f c.1) ∷ within f cs

-- no condition holds
abbrev pub AllPassed : {A : Type 0} → List (Bool × A) → Type 0
AllPassed [] = Unit
AllPassed (c ∷ cs) = (c.0 ≡ false) × AllPassed cs

-- a constructor of answers, and one that is none of them
module _ {A B : Type 0} (f : A → B) (fine : B) (same : (a b : A) → f a ≡ f b → a ≡ b) (apart : (a : A) → f a ≡ fine → ⊥) where
  pub first_some : (cs : List (Bool × A)) (a o : A) → f a ≡ first (within f cs) fine → a ≡ first cs o
  first_some [] a o e = absurd (apart a e)
  first_some ((true, y) ∷ cs) a o e = same a y e
  first_some ((false, y) ∷ cs) a o e = first_some cs a o e

  pub all_passed : (cs : List (Bool × A)) → fine ≡ first (within f cs) fine → AllPassed cs
  all_passed [] e = tt
  all_passed ((true, y) ∷ cs) e = absurd (apart y (sym e))
  all_passed ((false, y) ∷ cs) e = (refl, all_passed cs e)

  pub first_none : (cs : List (Bool × A)) (o : A) → fine ≡ first (within f cs) fine → first cs o ≡ o
  first_none [] o e = refl
  first_none ((true, y) ∷ cs) o e = absurd (apart y (sym e))
  first_none ((false, y) ∷ cs) o e = first_none cs o e
