-- `cutter::put_number` meets its contract: a space, and behind it the number's decimal text.
use native.Mathlib.Omega.{arith}
use Rattle.decimal.specs.Laws.{length_below}
use Rattle.cutter.specs.Laws.{spelled, spaced_stored}
use Rattle.cutter.proofs.put_number.Goals as goal

pub put-requires : goal.put-requires
put-requires c =
    let n = c.args.n in
    let few = length_below n 9 (omega (arith, c.ranges.n.fits)) in
    let low = c.requires in
    rw (c.text.ensures, spelled n c.spell-number.result c.ranges.n.fits c.spell-number.ensures) (omega arith)

pub returns : goal.returns
returns c =
    let n = c.args.n in
    spaced_stored n c.store_byte.ensures (rw (← spelled n c.spell-number.result c.ranges.n.fits c.spell-number.ensures, ← c.text.ensures) c.put.ensures)
