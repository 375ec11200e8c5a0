-- The digits of a number in so many columns. The definition has them from the right, by tens; a power that is taken off gives the first of them.
use Prim.Native.Nat.{ℕ, zero, suc, ◌+◌, ◌*◌, ◌/◌, ◌%◌, ◌^◌, ◌<◌}
use native.Mathlib.Omega.{arith}
use native.Mathlib.Nat.{pow-suc, mul_assoc}
use native.Mathlib.Numerals.{add-one}
use mathlib.Core.Path.{◌≡◌, sym}
use mathlib.Core.List.{List, [], ◌∷◌, ◌++◌}
use lib.ListN.{length}
use Rattle.decimal.specs.Decimal.{digit, natural}
use Rattle.decimal.specs.Laws.{by_tens, natural_one, natural_more, length_one, length_more}

-- the last k digits of n, the highest first, zeros in front among them
abbrev pub columns : ℕ → ℕ → List ℕ
columns zero n = []
columns (suc k) n = columns k (n / 10) ++ digit (n % 10) ∷ []

-- a number has as many columns as digits
pub natural_columns : (n : ℕ) → natural n ≡ columns (length (natural n)) n
natural_columns = by_tens (λ n. natural n ≡ columns (length (natural n)) n)
    (λ n h. let r : n % 10 ≡ n = omega arith in rw (length_one n h, natural_one n h, r))
    (λ n h p. rw (length_more n h, add-one, natural_more n h, ← p))

pub one_column : (n : ℕ) → n < 10 → columns 1 n ≡ digit n ∷ []
one_column n h = let r : n % 10 ≡ n = omega arith in rw r

pub first_column : (k d r : ℕ) → d < 10 → r < 10 ^ k → columns (suc k) (d * 10 ^ k + r) ≡ digit d ∷ columns k r
first_column zero d r g h = let e : d * 1 + r ≡ d = omega arith in rw e (one_column d g)
first_column (suc k) d r g h =
    let s : r < 10 ^ k * 10 = rw (pow-suc 10 k) at h in
    let m : d * (10 ^ k * 10) ≡ d * 10 ^ k * 10 = sym (mul_assoc d (10 ^ k) 10) in
    let q : (d * (10 ^ k * 10) + r) / 10 ≡ d * 10 ^ k + r / 10 = omega arith in
    let u : (d * (10 ^ k * 10) + r) % 10 ≡ r % 10 = omega arith in
    rw (pow-suc 10 k, q, u, first_column k d (r / 10) g (omega arith))
