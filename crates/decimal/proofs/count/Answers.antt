-- `decimal::count` meets its contract. The loop's invariant: the number has at least the digits counted.
use native.Mathlib.Omega.{arith}
use Rattle.decimal.specs.Laws.{length_some, length_below}
use Rattle.decimal.proofs.Turns.{counts_on, counted}
use Rattle.decimal.proofs.count.Goals as goal

pub loop-k-init : goal.loop-k-init
loop-k-init c = length_some c.args.n

pub returns-then-n-power : goal.returns-then-n-power
returns-then-n-power c =
    let at-loop = c.loop-k in
    omega (arith, counted _ _ _ (omega arith) c.power.ensures (omega arith) c.if-n-power.true)

pub loop-k-preserved : goal.loop-k-preserved
loop-k-preserved c =
    omega (arith, counts_on _ _ _ (omega arith) c.power.ensures c.if-n-power.false)

pub returns : goal.returns
returns c = omega (arith, length_below c.args.n 18 (omega arith))
