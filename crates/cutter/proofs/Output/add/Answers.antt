-- `cutter::Output::add` keeps to its bytes: the line that is stored is no longer than the room that was made.
use native.Mathlib.Omega.{arith}
use Rattle.cutter.specs.Laws.{stored_few}
use Rattle.cutter.proofs.Output.add.Goals as goal

pub overflow_add-self : goal.overflow_add-self
overflow_add-self c =
    let few = stored_few _ _ _ c.ranges.start.fits c.ranges.len.fits c.put_line.ensures in
    record { fits = omega (arith, few, c.empty.ensures) }

pub invariant_of-self : goal.invariant_of-self
invariant_of-self c =
    let few = stored_few _ _ _ c.ranges.start.fits c.ranges.len.fits c.put_line.ensures in
    record { inside = omega (arith, few, c.empty.ensures) }
