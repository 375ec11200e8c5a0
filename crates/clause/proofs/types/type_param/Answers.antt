-- `types::type_param` writes its entry, a step a call.
use mathlib.Core.Path.{refl}
use Rattle.pen.specs.Laws.{◌▹◌}
use Rattle.pen.specs.Places.{shut, opened, optional}
use Rattle.grammar.specs.Grammar.{shape}
use Rattle.clause.proofs.types.type_param.Goals as goal

pub returns-then-left-r : goal.returns-then-left-r
returns-then-left-r c r =
    let at-run = c in
    let at-if1 = at-run in
    let at_read = at-if1 in
    shut refl at_read.read-r.ensures at-if1.if-left-r.true (at-run.run.ensures _ r)

pub returns : goal.returns
unfolding shape
returns c r =
    let at-name2 = c in
    let at_name = at-name2 in
    let at-pass = at_name in
    let at-if1 = at-pass in
    let at_read = at-if1 in
    opened refl at_read.read-r.ensures at-if1.if-left-r.false at-pass.pass-q.ensures (at_name.name-q.ensures _ _ ▹ optional (at-name2.name.ensures _ _))
