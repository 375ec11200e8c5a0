-- `decimal::take` meets its contract. The loop's invariant: what was taken off and the rest are the number.
use native.Mathlib.Omega.{arith}
use native.Mathlib.Nat.{lt_of_mul-lt-mul_right}
use Rattle.decimal.proofs.take.Goals as goal

pub overflow_add-digit : goal.overflow_add-digit
overflow_add-digit c =
    omega (arith, lt_of_mul-lt-mul_right c.args.unit {m = c.loop-rest.digit} {n = 10} (omega arith))

pub returns : goal.returns
returns c =
    (c.loop-rest.invariant, omega arith, lt_of_mul-lt-mul_right c.args.unit (omega arith))
