-- `rules::sound_to` meets its contract: it goes by the definition's cases, and a place is small.
use Rattle.std.proofs.Common.{arith}
use Rattle.rules.proofs.sound_to.Goals as goal

pub overflow_add-result : goal.overflow_add-result
overflow_add-result c =
    let at_pre = c.requires in
    record { fits = omega (arith, rw (c.in-Err.is, c.in-Deep.is) at at_pre) }

pub returns-in-Ok : goal.returns-in-Ok
returns-in-Ok c = rw c.in-Ok.is c.count.ensures

pub returns-in-Deep : goal.returns-in-Deep
returns-in-Deep c = rw (c.in-Err.is, c.in-Deep.is)
