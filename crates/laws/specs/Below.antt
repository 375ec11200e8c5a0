-- A rule of a table, proved at all of its places by one test that is computed: at each number below n.
use Rattle.std.specs.Prelude.{ℕ, zero, suc, ◌<◌, ◌≡◌, refl, Bool, true, false, ◌&&◌, eqb}
use Rattle.std.proofs.Common.{arith, not-suc-le-zero, sym, subst, eqb-true}
use Rattle.std.proofs.lemmas.Bool.{eqb-false}
use Rattle.laws.specs.Tests.{and_left, and_right}

-- the test passes at each number below n
abbrev pub below : (ℕ → Bool) → ℕ → Bool
below f zero = true
below f (suc n) = f n && below f n

pub at : (f : ℕ → Bool) (n : ℕ) → below f n ≡ true → (k : ℕ) → k < n → f k ≡ true
at f zero t k h = absurd (not-suc-le-zero h)
at f (suc n) t k h =
    by (eqb k n) refl (and_left (f n) (below f n) t) (at f n (and_right (f n) (below f n) t) k)
  where
    by : (b : Bool) → eqb k n ≡ b → f n ≡ true → (k < n → f k ≡ true) → f k ≡ true
    by true e here there = subst (λ (m : ℕ). f m ≡ true) (sym (eqb-true k n e)) here
    by false e here there = let ne = eqb-false k n e in there (omega arith)
