-- `stmt` goes to the group of statements that the kind is in.
use Rattle.pen.specs.Laws.{in_one}
use Rattle.pen.specs.Places.{alike}
use Rattle.stmt.specs.Laws.{in_first, in_second, in_third}
use Rattle.stmt.proofs.stmt.Goals as goal

pub returns-then-r-lt-DELETE : goal.returns-then-r-lt-DELETE
returns-then-r-lt-DELETE c r =
    let at-stmt-to-create-virtual-table = c in
    let at-if1 = at-stmt-to-create-virtual-table in
    let at_read = at-if1 in
    alike at_read.read-r.ensures (in_first _ at-if1.if-r-lt-DELETE.true) (at-stmt-to-create-virtual-table.stmt_to_create_virtual_table.ensures r)

pub returns-then-r-lt-SAVEPOINT : goal.returns-then-r-lt-SAVEPOINT
returns-then-r-lt-SAVEPOINT c r =
    let at-stmt-to-rollback = c in
    let at-if2 = at-stmt-to-rollback in
    let at-if1 = at-if2 in
    let at_read = at-if1 in
    alike at_read.read-r.ensures (in_second _ at-if1.if-r-lt-DELETE.false at-if2.if-r-lt-SAVEPOINT.true) (in_one (at-stmt-to-rollback.stmt_to_rollback.ensures r))

pub returns : goal.returns
returns c r =
    let at-stmt-to-drop-domain = c in
    let at-if2 = at-stmt-to-drop-domain in
    let at_read = at-if2 in
    alike at_read.read-r.ensures (in_third _ at-if2.if-r-lt-SAVEPOINT.false) (at-stmt-to-drop-domain.stmt_to_drop_domain.ensures r)
