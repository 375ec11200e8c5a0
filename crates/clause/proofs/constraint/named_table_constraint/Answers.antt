-- `constraint::named_table_constraint` writes its entry, a step a call.
use mathlib.Core.Path.{refl}
use Rattle.pen.specs.Laws.{◌▹◌}
use Rattle.pen.specs.Places.{shut, opened, left_some, optional}
use Rattle.grammar.specs.Grammar.{shape}
use Rattle.clause.proofs.constraint.named_table_constraint.Goals as goal

pub returns-then-left-r : goal.returns-then-left-r
returns-then-left-r c r =
    let at-run = c in
    let at-if1 = at-run in
    let at_read = at-if1 in
    shut refl at_read.read-r.ensures at-if1.if-left-r.true (at-run.run.ensures _ r)

pub overflow_sub-left : goal.overflow_sub-left
overflow_sub-left c =
    let at-if1 = c in
    left_some _ _ at-if1.if-left-r.false

pub returns : goal.returns
unfolding shape
returns c r =
    let at-table-constraint = c in
    let at-run2 = at-table-constraint in
    let at-pass = at-run2 in
    let at-if1 = at-pass in
    let at_read = at-if1 in
    opened refl at_read.read-r.ensures at-if1.if-left-r.false at-pass.pass-q.ensures (optional (at-run2.run-q.ensures _ _) ▹ at-table-constraint.table_constraint.ensures _)
