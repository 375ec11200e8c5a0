-- `root_element` goes to the group that the kind is in.
use Rattle.pen.specs.Places.{alike}
use Rattle.cmd.specs.Laws.{root_stmt, root_early, root_late}
use Rattle.cmd.proofs.root_element.Goals as goal

pub returns-then-r-lt-SELECT : goal.returns-then-r-lt-SELECT
returns-then-r-lt-SELECT c r =
    let at-stmt = c in
    let at-if1 = at-stmt in
    let at_read = at-if1 in
    alike at_read.read-r.ensures (root_stmt _ at-if1.if-r-lt-SELECT.true) (at-stmt.stmt.ensures r)

pub returns-then-r-lt-COLUMN_DEFINITION : goal.returns-then-r-lt-COLUMN_DEFINITION
returns-then-r-lt-COLUMN_DEFINITION c r =
    let at-clause-to-as-select = c in
    let at-if2 = at-clause-to-as-select in
    let at-if1 = at-if2 in
    let at_read = at-if1 in
    alike at_read.read-r.ensures (root_early _ at-if1.if-r-lt-SELECT.false at-if2.if-r-lt-COLUMN_DEFINITION.true) (at-clause-to-as-select.clause_to_as_select.ensures r)

pub returns : goal.returns
returns c r =
    let at-clause-to-named-table-constraint = c in
    let at-if2 = at-clause-to-named-table-constraint in
    let at_read = at-if2 in
    alike at_read.read-r.ensures (root_late _ at-if2.if-r-lt-COLUMN_DEFINITION.false) (at-clause-to-named-table-constraint.clause_to_named_table_constraint.ensures r)
