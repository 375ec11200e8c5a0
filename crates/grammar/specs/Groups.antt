-- Kinds in a row: whether a kind is among them, by its number.
use Rattle.std.specs.Prelude.{ℕ, zero, suc, ◌+◌, ◌≤◌, ◌<◌, ◌≡◌, refl, List, [], ◌∷◌, ◌++◌, Bool, true, false, ◌||◌, eqb}
use Rattle.std.proofs.Common.{arith, ne_eqb}
use Rattle.std.proofs.lemmas.Bool.{eqb-false}
use Rattle.laws.specs.Among.{among}
use Rattle.grammar.specs.Grammar.{from}

pub before_all : (k n m : ℕ) → k < n → among k (from n m) ≡ false
before_all k n zero h = refl
before_all k n (suc m) h = rw (ne_eqb k n (λ e. omega arith)) (before_all k (n + 1) m (omega arith))

pub behind_all : (k n m : ℕ) → n + m ≤ k → among k (from n m) ≡ false
behind_all k n zero h = refl
behind_all k n (suc m) h = rw (ne_eqb k n (λ e. omega arith)) (behind_all k (n + 1) m (omega arith))

pub among_both : (k : ℕ) (xs ys : List ℕ) → among k (xs ++ ys) ≡ (among k xs || among k ys)
among_both k [] ys = refl
among_both k (x ∷ xs) ys = by (eqb k x) (among_both k xs ys)
  where
    by : (b : Bool) → among k (xs ++ ys) ≡ (among k xs || among k ys) → (b || among k (xs ++ ys)) ≡ ((b || among k xs) || among k ys)
    by true e = refl
    by false e = e

pub or_none : (b : Bool) → (b || false) ≡ b
or_none true = refl
or_none false = refl

pub inside : (k n m : ℕ) → n ≤ k → k < n + m → among k (from n m) ≡ true
inside k n zero h l = absurd (omega arith)
inside k n (suc m) h l = by (eqb k n) refl (λ (z : n + 1 ≤ k). inside k (n + 1) m z (omega arith))
  where
    by : (b : Bool) → eqb k n ≡ b → (n + 1 ≤ k → among k (from (n + 1) m) ≡ true) → (b || among k (from (n + 1) m)) ≡ true
    by true e more = refl
    by false e more = more (omega (arith, h, eqb-false k n e))
