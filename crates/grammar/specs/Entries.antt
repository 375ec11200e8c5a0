-- A rule of the grammar, proved of all its entries by one test that is computed.
use Rattle.std.specs.Prelude.{ℕ, ◌≡◌, refl, List, [], ◌∷◌, Bool, true, false, cond, ◌&&◌, eqb}
use Rattle.std.proofs.Common.{eqb-true}
use Rattle.laws.specs.Tests.{and_left, and_right}
use Rattle.grammar.specs.Shape.{Shape, nothing}
use Rattle.grammar.specs.Grammar.{table, lookup, shape}

-- the test passes at each entry
abbrev pub entries : (ℕ → Shape → Bool) → List (ℕ × Shape) → Bool
entries p [] = true
entries p (r ∷ rs) = p r.0 r.1 && entries p rs

-- so it passes at each kind, if it does at a kind without an entry
module _ (p : ℕ → Shape → Bool) (k : ℕ) (other : p k nothing ≡ true) where
  looked_up : (rs : List (ℕ × Shape)) → entries p rs ≡ true → p k (lookup rs k) ≡ true
  looked_up [] h = other
  looked_up (r ∷ rs) h =
      by (eqb k r.0) refl (and_left (p r.0 r.1) (entries p rs) h) (looked_up rs (and_right (p r.0 r.1) (entries p rs) h))
    where
      by : (b : Bool) → eqb k r.0 ≡ b → p r.0 r.1 ≡ true → p k (lookup rs k) ≡ true → p k (cond b r.1 (lookup rs k)) ≡ true
      by true e here later = rw (eqb-true k r.0 e) here
      by false e here later = later

  pub entry : entries p table ≡ true → p k (shape k) ≡ true
  unfolding shape
  entry h = looked_up table h
