-- `types::type_name` writes its entry, a step a call.
use mathlib.Core.Path.{refl}
use Rattle.pen.specs.Laws.{◌▹◌}
use Rattle.pen.specs.Places.{shut, opened}
use Rattle.grammar.specs.Grammar.{shape}
use Rattle.clause.proofs.types.type_name.Goals as goal

pub returns-then-left-r : goal.returns-then-left-r
returns-then-left-r c r =
    let at-run = c in
    let at-if1 = at-run in
    let at_read = at-if1 in
    shut refl at_read.read-r.ensures at-if1.if-left-r.true (at-run.run.ensures _ r)

pub returns : goal.returns
unfolding shape
returns c r =
    let at-dimensions = c in
    let at_size = at-dimensions in
    let at_name = at_size in
    let at-pass = at_name in
    let at-if1 = at-pass in
    let at_read = at-if1 in
    opened refl at_read.read-r.ensures at-if1.if-left-r.false at-pass.pass-q.ensures (at_name.name-q.ensures _ _
    ▹ at_size.size-q.ensures _ _
    ▹ at-dimensions.dimensions.ensures _ _ _)
