-- `stmt_to_create_virtual_table` writes the statement that stands there.
use mathlib.Core.Path.{refl}
use borrow.Author.Tests.{ne_eqb}
use Rattle.grammar.specs.Grammar.{shape}
use Rattle.grammar.specs.Kind.{AlterTable, Analyze, Attach, Begin, Commit, CreateIndex, CreateTable, CreateTrigger, CreateView, CreateMaterializedView, CreateVirtualTable}
use Rattle.pen.specs.Laws.{in_one}
use Rattle.pen.specs.Places.{shallow, other, node_on, optional_last}
use native.Mathlib.Omega.{arith}
use Rattle.stmt.proofs.stmt_to_create_virtual_table.Goals as goal

pub returns-then-left-eq0 : goal.returns-then-left-eq0
returns-then-left-eq0 c r =
    let at-run = c in
    let at-if1 = at-run in
    let at_read = at-if1 in
    shallow at_read.read-r.ensures (in_one (at-run.run.ensures _ r)) at-if1.if-left-eq0.true refl

pub returns-then-r-eq-ALTER_TABLE : goal.returns-then-r-eq-ALTER_TABLE
unfolding shape
returns-then-r-eq-ALTER_TABLE c r =
    let at-alter-table = c in
    let at-if2 = at-alter-table in
    let at-pass = at-if2 in
    let at-if1 = at-pass in
    let at_read = at-if1 in
    node_on at_read.read-r.ensures AlterTable at-if2.if-r-eq-ALTER_TABLE.true refl at-if1.if-left-eq0.false at-pass.pass-q.ensures (in_one (at-alter-table.alter_table.ensures _))

pub returns-then-r-eq-ANALYZE : goal.returns-then-r-eq-ANALYZE
unfolding shape
returns-then-r-eq-ANALYZE c r =
    let at-word-run = c in
    let at-if3 = at-word-run in
    let at-pass = at-if3 in
    let at-if1 = at-pass in
    let at_read = at-if1 in
    node_on at_read.read-r.ensures Analyze at-if3.if-r-eq-ANALYZE.true refl at-if1.if-left-eq0.false at-pass.pass-q.ensures (in_one (optional_last (at-word-run.word_run.ensures _ _)))

pub returns-then-r-eq-ATTACH : goal.returns-then-r-eq-ATTACH
unfolding shape
returns-then-r-eq-ATTACH c r =
    let at-attach = c in
    let at-if4 = at-attach in
    let at-pass = at-if4 in
    let at-if1 = at-pass in
    let at_read = at-if1 in
    node_on at_read.read-r.ensures Attach at-if4.if-r-eq-ATTACH.true refl at-if1.if-left-eq0.false at-pass.pass-q.ensures (in_one (at-attach.attach.ensures _ _))

pub returns-then-r-eq-BEGIN : goal.returns-then-r-eq-BEGIN
unfolding shape
returns-then-r-eq-BEGIN c r =
    let at-begin = c in
    let at-if5 = at-begin in
    let at-pass = at-if5 in
    let at-if1 = at-pass in
    let at_read = at-if1 in
    node_on at_read.read-r.ensures Begin at-if5.if-r-eq-BEGIN.true refl at-if1.if-left-eq0.false at-pass.pass-q.ensures (in_one (at-begin.begin.ensures _ _))

pub returns-then-r-eq-COMMIT : goal.returns-then-r-eq-COMMIT
unfolding shape
returns-then-r-eq-COMMIT c r =
    let at-commit = c in
    let at-if6 = at-commit in
    let at-pass = at-if6 in
    let at-if1 = at-pass in
    let at_read = at-if1 in
    node_on at_read.read-r.ensures Commit at-if6.if-r-eq-COMMIT.true refl at-if1.if-left-eq0.false at-pass.pass-q.ensures (in_one (at-commit.commit.ensures _ _))

pub returns-then-r-eq-CREATE_INDEX : goal.returns-then-r-eq-CREATE_INDEX
unfolding shape
returns-then-r-eq-CREATE_INDEX c r =
    let at-create-index = c in
    let at-if7 = at-create-index in
    let at-second-flag = at-if7 in
    let at-first-flag = at-second-flag in
    let at-pass = at-first-flag in
    let at-if1 = at-pass in
    let at_read = at-if1 in
    node_on at_read.read-r.ensures CreateIndex at-if7.if-r-eq-CREATE_INDEX.true refl at-if1.if-left-eq0.false at-pass.pass-q.ensures (in_one (at-create-index.create_index.ensures _ (at-first-flag.first_flag-first.ensures _ refl) (at-second-flag.second_flag-second.ensures _ refl)))

pub returns-then-r-eq-CREATE_TABLE : goal.returns-then-r-eq-CREATE_TABLE
unfolding shape
returns-then-r-eq-CREATE_TABLE c r =
    let at-create-table = c in
    let at-if8 = at-create-table in
    let at-second-flag = at-if8 in
    let at-first-flag = at-second-flag in
    let at-pass = at-first-flag in
    let at-if1 = at-pass in
    let at_read = at-if1 in
    node_on at_read.read-r.ensures CreateTable at-if8.if-r-eq-CREATE_TABLE.true refl at-if1.if-left-eq0.false at-pass.pass-q.ensures (at-create-table.create_table.ensures _ (at-first-flag.first_flag-first.ensures _ refl) (at-second-flag.second_flag-second.ensures _ refl))

pub returns-then-r-eq-CREATE_TRIGGER : goal.returns-then-r-eq-CREATE_TRIGGER
unfolding shape
returns-then-r-eq-CREATE_TRIGGER c r =
    let at-create-trigger = c in
    let at-if9 = at-create-trigger in
    let at-third-flag = at-if9 in
    let at-second-flag = at-third-flag in
    let at-first-flag = at-second-flag in
    let at-pass = at-first-flag in
    let at-if1 = at-pass in
    let at_read = at-if1 in
    node_on at_read.read-r.ensures CreateTrigger at-if9.if-r-eq-CREATE_TRIGGER.true refl at-if1.if-left-eq0.false at-pass.pass-q.ensures (in_one (at-create-trigger.create_trigger.ensures _ _ (at-first-flag.first_flag-first.ensures _ refl) (at-second-flag.second_flag-second.ensures _ refl) (at-third-flag.third_flag-third.ensures _ refl)))

pub returns-then-r-eq-CREATE_VIEW : goal.returns-then-r-eq-CREATE_VIEW
unfolding shape
returns-then-r-eq-CREATE_VIEW c r =
    let at-create-view = c in
    let at-if10 = at-create-view in
    let at-second-flag = at-if10 in
    let at-first-flag = at-second-flag in
    let at-pass = at-first-flag in
    let at-if1 = at-pass in
    let at_read = at-if1 in
    node_on at_read.read-r.ensures CreateView at-if10.if-r-eq-CREATE_VIEW.true refl at-if1.if-left-eq0.false at-pass.pass-q.ensures (in_one (at-create-view.create_view.ensures _ (at-first-flag.first_flag-first.ensures _ refl) (at-second-flag.second_flag-second.ensures _ refl)))

pub returns-then-r-eq-CREATE_MATERIALIZED_VIEW : goal.returns-then-r-eq-CREATE_MATERIALIZED_VIEW
unfolding shape
returns-then-r-eq-CREATE_MATERIALIZED_VIEW c r =
    let at-create-materialized-view = c in
    let at-if11 = at-create-materialized-view in
    let at-first-flag = at-if11 in
    let at-pass = at-first-flag in
    let at-if1 = at-pass in
    let at_read = at-if1 in
    node_on at_read.read-r.ensures CreateMaterializedView at-if11.if-r-eq-CREATE_MATERIALIZED_VIEW.true refl at-if1.if-left-eq0.false at-pass.pass-q.ensures (in_one (at-create-materialized-view.create_materialized_view.ensures _ (at-first-flag.first_flag-first.ensures _ refl)))

pub returns-then-r-eq-CREATE_VIRTUAL_TABLE : goal.returns-then-r-eq-CREATE_VIRTUAL_TABLE
unfolding shape
returns-then-r-eq-CREATE_VIRTUAL_TABLE c r =
    let at-create-virtual-table = c in
    let at-if12 = at-create-virtual-table in
    let at-first-flag = at-if12 in
    let at-pass = at-first-flag in
    let at-if1 = at-pass in
    let at_read = at-if1 in
    node_on at_read.read-r.ensures CreateVirtualTable at-if12.if-r-eq-CREATE_VIRTUAL_TABLE.true refl at-if1.if-left-eq0.false at-pass.pass-q.ensures (in_one (at-create-virtual-table.create_virtual_table.ensures _ _ (at-first-flag.first_flag-first.ensures _ refl)))

pub returns : goal.returns
returns c r =
    let at-run2 = c in
    let at-if12 = at-run2 in
    let at-if11 = at-if12 in
    let at-if10 = at-if11 in
    let at-if9 = at-if10 in
    let at-if8 = at-if9 in
    let at-if7 = at-if8 in
    let at-if6 = at-if7 in
    let at-if5 = at-if6 in
    let at-if4 = at-if5 in
    let at-if3 = at-if4 in
    let at-if2 = at-if3 in
    let at_read = at-if2 in
    other at_read.read-r.ensures (in_one (at-run2.run-2.ensures _ r)) (rw (ne_eqb _ AlterTable at-if2.if-r-eq-ALTER_TABLE.false, ne_eqb _ Analyze at-if3.if-r-eq-ANALYZE.false, ne_eqb _ Attach at-if4.if-r-eq-ATTACH.false, ne_eqb _ Begin at-if5.if-r-eq-BEGIN.false, ne_eqb _ Commit at-if6.if-r-eq-COMMIT.false, ne_eqb _ CreateIndex at-if7.if-r-eq-CREATE_INDEX.false, ne_eqb _ CreateTable at-if8.if-r-eq-CREATE_TABLE.false, ne_eqb _ CreateTrigger at-if9.if-r-eq-CREATE_TRIGGER.false, ne_eqb _ CreateView at-if10.if-r-eq-CREATE_VIEW.false, ne_eqb _ CreateMaterializedView at-if11.if-r-eq-CREATE_MATERIALIZED_VIEW.false, ne_eqb _ CreateVirtualTable at-if12.if-r-eq-CREATE_VIRTUAL_TABLE.false))

pub overflow_sub-left : goal.overflow_sub-left
overflow_sub-left c = omega (arith, c.if-left-eq0.false)

pub overflow_sub-left-then-r-eq-CREATE_INDEX : goal.overflow_sub-left-then-r-eq-CREATE_INDEX
overflow_sub-left-then-r-eq-CREATE_INDEX c = omega (arith, c.if-left-eq0.false)

pub overflow_sub-left-then-r-eq-CREATE_TABLE : goal.overflow_sub-left-then-r-eq-CREATE_TABLE
overflow_sub-left-then-r-eq-CREATE_TABLE c = omega (arith, c.if-left-eq0.false)

pub overflow_sub-left-then-r-eq-CREATE_VIEW : goal.overflow_sub-left-then-r-eq-CREATE_VIEW
overflow_sub-left-then-r-eq-CREATE_VIEW c = omega (arith, c.if-left-eq0.false)

pub overflow_sub-left-then-r-eq-CREATE_MATERIALIZED_VIEW : goal.overflow_sub-left-then-r-eq-CREATE_MATERIALIZED_VIEW
overflow_sub-left-then-r-eq-CREATE_MATERIALIZED_VIEW c = omega (arith, c.if-left-eq0.false)
