-- The powers of ten are right: their one rule is that each is ten times the one before, which is tested at all of them at once.
use Rattle.std.specs.Prelude.{ℕ, zero, suc, ◌-◌, ◌*◌, ◌^◌, ◌<◌, ◌≡◌, refl, Bool, true, eqb}
use Rattle.std.proofs.Common.{arith, pow-suc, ◌∙◌, eqb-true}
use Rattle.laws.specs.Below.{below, at}
use Rattle.decimal.specs.Powers.{most, power}

tenfold : ℕ → Bool
tenfold k = eqb (power (suc k)) (power k * 10)

all_tenfold : below tenfold (most - 1) ≡ true
unfolding power tenfold
all_tenfold = refl

pub power_is : (k : ℕ) → k < most → power k ≡ 10 ^ k
unfolding power tenfold
power_is zero h = refl
power_is (suc k) h =
    let e = eqb-true (power (suc k)) (power k * 10) (at tenfold (most - 1) all_tenfold k (omega arith)) in
    let p = power_is k (omega arith) in
    e ∙ rw (p, pow-suc 10 k)
