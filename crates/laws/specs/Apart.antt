-- What is left of a number behind the arms of a `match`: it is none of their keys.
use Rattle.std.specs.Prelude.{ℕ, zero, suc, ◌≤◌, ◌≡◌, refl, List, [], ◌∷◌, false}
use Rattle.std.proofs.Common.{arith, ne_eqb}
use Rattle.laws.specs.Among.{among}

-- n is none of the keys, the last arm's first
abbrev pub Apart : List ℕ → ℕ → Type 0
Apart [] n = Unit {0}
Apart (k ∷ ks) n = Apart ks n × (n ≡ k → ⊥)

pub absent : (ks : List ℕ) (n : ℕ) → Apart ks n → among n ks ≡ false
absent [] n p = refl
absent (k ∷ ks) n p = rw (ne_eqb n k p.1, absent ks n p.0)

-- the keys of arms for all numbers below k
abbrev pub down : ℕ → List ℕ
down zero = []
down (suc k) = k ∷ down k

-- a number that is none of them is not below k
pub apart : (k n : ℕ) → Apart (down k) n → k ≤ n
apart zero n p = omega arith
apart (suc k) n p = omega (arith, apart k n p.0, p.1)
