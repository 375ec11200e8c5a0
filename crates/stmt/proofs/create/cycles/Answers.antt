-- `create::cycles` writes its word under the flag.
use Rattle.pen.specs.Laws.{a_said}
use Rattle.pen.specs.Places.{under, not_under}
use mathlib.Core.Path.{refl}
use Rattle.stmt.proofs.create.cycles.Goals as goal

pub returns-then-on : goal.returns-then-on
returns-then-on c e d r bit h =
    let at-said = c in
    let at-if1 = at-said in
    under h at-if1.if-on.true (a_said _ refl at-said.said.ensures)

pub returns : goal.returns
returns c e d r bit h = not_under h c.if-on.false
