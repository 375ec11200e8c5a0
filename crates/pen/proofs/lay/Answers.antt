-- `pen::lay` meets its contract: where there is no room nothing is stored and all is counted, and else it is what `lay_all` does.
use Prim.Native.Nat.{◌≤◌}
use native.Mathlib.Omega.{arith}
use lib.ListN.{length}
use Rattle.stream.specs.Sink.{most}
use Rattle.pen.specs.Quick.{led_none, led_laid}
use Rattle.pen.proofs.lay.Goals as goal

pub returns-then-out-s : goal.returns-then-out-s
returns-then-out-s c =
    let at-if1 = c in
    let start = at-if1 in
    led_none start.args.s start.args.out.now start.args.v.now _ at-if1.if-out-s.true c.counted.ensures

pub returns : goal.returns
returns c =
    let at-laid = c in
    let at-if1 = at-laid in
    let start = at-if1 in
    let held : length start.args.out.now ≤ most = omega (arith, start.well_formed.0) in
    led_laid start.args.s start.args.out.now start.args.v.now _ _ held (omega (arith, at-if1.if-out-s.false)) at-laid.lay_all.ensures
