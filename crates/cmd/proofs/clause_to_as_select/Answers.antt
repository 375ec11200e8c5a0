-- `clause_to_as_select` writes the clause that stands there.
use native.Mathlib.Omega.{arith}
use Rattle.grammar.specs.Groups.{before_all, behind_all}
use Rattle.pen.specs.Laws.{in_one}
use Rattle.pen.specs.Places.{other}
use Rattle.cmd.specs.Laws.{group_of, early_in}
use Rattle.cmd.proofs.clause_to_as_select.Goals as goal

pub returns-then-r-lt-SELECT : goal.returns-then-r-lt-SELECT
returns-then-r-lt-SELECT c r =
    let at-run = c in
    let at-if1 = at-run in
    let at_read = at-if1 in
    other at_read.read-r.ensures (in_one (at-run.run.ensures _ r)) (before_all _ 80 20 at-if1.if-r-lt-SELECT.true)

pub returns-then-r-le-SELECT : goal.returns-then-r-le-SELECT
returns-then-r-le-SELECT c r =
    let at-select = c in
    let at-if2 = at-select in
    let at-if1 = at-if2 in
    let at_read = at-if1 in
    group_of at_read.read-r.ensures 80 1 (omega (arith, at-if1.if-r-lt-SELECT.false)) (omega (arith, at-if2.if-r-le-SELECT.true)) (early_in at_read.read-r.result.kind (omega (arith, at-if1.if-r-lt-SELECT.false)) (omega (arith, at-if2.if-r-le-SELECT.true))) (in_one (at-select.select.ensures r))

pub returns-then-r-le-SELECT_BODY : goal.returns-then-r-le-SELECT_BODY
returns-then-r-le-SELECT_BODY c r =
    let at_body = c in
    let at-if3 = at_body in
    let at-if2 = at-if3 in
    let at-if1 = at-if2 in
    let at_read = at-if1 in
    group_of at_read.read-r.ensures 81 1 (omega (arith, at-if2.if-r-le-SELECT.false)) (omega (arith, at-if3.if-r-le-SELECT_BODY.true)) (early_in at_read.read-r.result.kind (omega (arith, at-if1.if-r-lt-SELECT.false)) (omega (arith, at-if3.if-r-le-SELECT_BODY.true))) (in_one (at_body.body.ensures r))

pub returns-then-r-le-COMPOUND_SELECT : goal.returns-then-r-le-COMPOUND_SELECT
returns-then-r-le-COMPOUND_SELECT c r =
    let at-compound = c in
    let at-if4 = at-compound in
    let at-if3 = at-if4 in
    let at-if1 = at-if3 in
    let at_read = at-if1 in
    group_of at_read.read-r.ensures 82 1 (omega (arith, at-if3.if-r-le-SELECT_BODY.false)) (omega (arith, at-if4.if-r-le-COMPOUND_SELECT.true)) (early_in at_read.read-r.result.kind (omega (arith, at-if1.if-r-lt-SELECT.false)) (omega (arith, at-if4.if-r-le-COMPOUND_SELECT.true))) (in_one (at-compound.compound.ensures r))

pub returns-then-r-le-VALUES : goal.returns-then-r-le-VALUES
returns-then-r-le-VALUES c r =
    let at-one-select = c in
    let at-if5 = at-one-select in
    let at-if4 = at-if5 in
    let at-if1 = at-if4 in
    let at_read = at-if1 in
    group_of at_read.read-r.ensures 83 2 (omega (arith, at-if4.if-r-le-COMPOUND_SELECT.false)) (omega (arith, at-if5.if-r-le-VALUES.true)) (early_in at_read.read-r.result.kind (omega (arith, at-if1.if-r-lt-SELECT.false)) (omega (arith, at-if5.if-r-le-VALUES.true))) (in_one (at-one-select.one_select.ensures r))

pub returns-then-r-le-FROM_CLAUSE : goal.returns-then-r-le-FROM_CLAUSE
returns-then-r-le-FROM_CLAUSE c r =
    let at-from-clause = c in
    let at-if6 = at-from-clause in
    let at-if5 = at-if6 in
    let at-if1 = at-if5 in
    let at_read = at-if1 in
    group_of at_read.read-r.ensures 85 1 (omega (arith, at-if5.if-r-le-VALUES.false)) (omega (arith, at-if6.if-r-le-FROM_CLAUSE.true)) (early_in at_read.read-r.result.kind (omega (arith, at-if1.if-r-lt-SELECT.false)) (omega (arith, at-if6.if-r-le-FROM_CLAUSE.true))) (in_one (at-from-clause.from_clause.ensures r))

pub returns-then-r-le-JOINED_TABLE : goal.returns-then-r-le-JOINED_TABLE
returns-then-r-le-JOINED_TABLE c r =
    let at_joined = c in
    let at-if7 = at_joined in
    let at-if6 = at-if7 in
    let at-if1 = at-if6 in
    let at_read = at-if1 in
    group_of at_read.read-r.ensures 86 1 (omega (arith, at-if6.if-r-le-FROM_CLAUSE.false)) (omega (arith, at-if7.if-r-le-JOINED_TABLE.true)) (early_in at_read.read-r.result.kind (omega (arith, at-if1.if-r-lt-SELECT.false)) (omega (arith, at-if7.if-r-le-JOINED_TABLE.true))) (in_one (at_joined.joined.ensures r))

pub returns-then-r-le-SUB : goal.returns-then-r-le-SUB
returns-then-r-le-SUB c r =
    let at_table = c in
    let at-if8 = at_table in
    let at-if7 = at-if8 in
    let at-if1 = at-if7 in
    let at_read = at-if1 in
    group_of at_read.read-r.ensures 87 4 (omega (arith, at-if7.if-r-le-JOINED_TABLE.false)) (omega (arith, at-if8.if-r-le-SUB.true)) (early_in at_read.read-r.result.kind (omega (arith, at-if1.if-r-lt-SELECT.false)) (omega (arith, at-if8.if-r-le-SUB.true))) (in_one (at_table.table.ensures r))

pub returns-then-r-le-USING : goal.returns-then-r-le-USING
returns-then-r-le-USING c r =
    let at-join-constraint = c in
    let at-if9 = at-join-constraint in
    let at-if8 = at-if9 in
    let at-if1 = at-if8 in
    let at_read = at-if1 in
    group_of at_read.read-r.ensures 91 2 (omega (arith, at-if8.if-r-le-SUB.false)) (omega (arith, at-if9.if-r-le-USING.true)) (early_in at_read.read-r.result.kind (omega (arith, at-if1.if-r-lt-SELECT.false)) (omega (arith, at-if9.if-r-le-USING.true))) (in_one (at-join-constraint.join_constraint.ensures r))

pub returns-then-r-le-DROP_COLUMN : goal.returns-then-r-le-DROP_COLUMN
returns-then-r-le-DROP_COLUMN c r =
    let at-alter-table-body = c in
    let at-if10 = at-alter-table-body in
    let at-if9 = at-if10 in
    let at-if1 = at-if9 in
    let at_read = at-if1 in
    group_of at_read.read-r.ensures 93 5 (omega (arith, at-if9.if-r-le-USING.false)) (omega (arith, at-if10.if-r-le-DROP_COLUMN.true)) (early_in at_read.read-r.result.kind (omega (arith, at-if1.if-r-lt-SELECT.false)) (omega (arith, at-if10.if-r-le-DROP_COLUMN.true))) (in_one (at-alter-table-body.alter_table_body.ensures r))

pub returns-then-r-le-AS_SELECT : goal.returns-then-r-le-AS_SELECT
returns-then-r-le-AS_SELECT c r =
    let at-create-table-body = c in
    let at-if11 = at-create-table-body in
    let at-if10 = at-if11 in
    let at-if1 = at-if10 in
    let at_read = at-if1 in
    group_of at_read.read-r.ensures 98 2 (omega (arith, at-if10.if-r-le-DROP_COLUMN.false)) (omega (arith, at-if11.if-r-le-AS_SELECT.true)) (early_in at_read.read-r.result.kind (omega (arith, at-if1.if-r-lt-SELECT.false)) (omega (arith, at-if11.if-r-le-AS_SELECT.true))) (at-create-table-body.create_table_body.ensures r)

pub returns : goal.returns
returns c r =
    let at-run2 = c in
    let at-if11 = at-run2 in
    let at_read = at-if11 in
    other at_read.read-r.ensures (in_one (at-run2.run-2.ensures _ r)) (behind_all at_read.read-r.result.kind 80 20 (omega (arith, at-if11.if-r-le-AS_SELECT.false)))
