-- `stmt_to_rollback` writes the statement that stands there.
use mathlib.Core.Path.{refl}
use borrow.Author.Tests.{ne_eqb}
use Rattle.grammar.specs.Grammar.{shape}
use Rattle.grammar.specs.Kind.{Delete, Detach, DropIndex, DropTable, DropTrigger, DropView, Insert, Pragma, Reindex, Optimize, Release, Rollback}
use Rattle.pen.specs.Places.{shallow, other, node_on, optional_last}
use Rattle.stmt.proofs.stmt_to_rollback.Goals as goal

pub returns-then-left-eq0 : goal.returns-then-left-eq0
returns-then-left-eq0 c r =
    let at-run = c in
    let at-if1 = at-run in
    let at_read = at-if1 in
    shallow at_read.read-r.ensures (at-run.run.ensures _ r) at-if1.if-left-eq0.true refl

pub returns-then-r-eq-DELETE : goal.returns-then-r-eq-DELETE
unfolding shape
returns-then-r-eq-DELETE c r =
    let at-delete = c in
    let at-if2 = at-delete in
    let at-pass = at-if2 in
    let at-if1 = at-pass in
    let at_read = at-if1 in
    node_on at_read.read-r.ensures Delete at-if2.if-r-eq-DELETE.true refl at-if1.if-left-eq0.false at-pass.pass-q.ensures (at-delete.delete.ensures _)

pub returns-then-r-eq-DETACH : goal.returns-then-r-eq-DETACH
unfolding shape
returns-then-r-eq-DETACH c r =
    let at-word-run = c in
    let at-if3 = at-word-run in
    let at-pass = at-if3 in
    let at-if1 = at-pass in
    let at_read = at-if1 in
    node_on at_read.read-r.ensures Detach at-if3.if-r-eq-DETACH.true refl at-if1.if-left-eq0.false at-pass.pass-q.ensures (at-word-run.word_run.ensures _ _)

pub returns-then-r-eq-DROP_INDEX : goal.returns-then-r-eq-DROP_INDEX
unfolding shape
returns-then-r-eq-DROP_INDEX c r =
    let at-drop-named = c in
    let at-if4 = at-drop-named in
    let at-first-flag = at-if4 in
    let at-pass = at-first-flag in
    let at-if1 = at-pass in
    let at_read = at-if1 in
    node_on at_read.read-r.ensures DropIndex at-if4.if-r-eq-DROP_INDEX.true refl at-if1.if-left-eq0.false at-pass.pass-q.ensures (at-drop-named.drop_named.ensures _ _ (at-first-flag.first_flag-first.ensures _ refl))

pub returns-then-r-eq-DROP_TABLE : goal.returns-then-r-eq-DROP_TABLE
unfolding shape
returns-then-r-eq-DROP_TABLE c r =
    let at-drop-named2 = c in
    let at-if5 = at-drop-named2 in
    let at-first-flag = at-if5 in
    let at-pass = at-first-flag in
    let at-if1 = at-pass in
    let at_read = at-if1 in
    node_on at_read.read-r.ensures DropTable at-if5.if-r-eq-DROP_TABLE.true refl at-if1.if-left-eq0.false at-pass.pass-q.ensures (at-drop-named2.drop_named-then-r-eq-DROP_TABLE.ensures _ _ (at-first-flag.first_flag-first.ensures _ refl))

pub returns-then-r-eq-DROP_TRIGGER : goal.returns-then-r-eq-DROP_TRIGGER
unfolding shape
returns-then-r-eq-DROP_TRIGGER c r =
    let at-drop-named3 = c in
    let at-if6 = at-drop-named3 in
    let at-first-flag = at-if6 in
    let at-pass = at-first-flag in
    let at-if1 = at-pass in
    let at_read = at-if1 in
    node_on at_read.read-r.ensures DropTrigger at-if6.if-r-eq-DROP_TRIGGER.true refl at-if1.if-left-eq0.false at-pass.pass-q.ensures (at-drop-named3.drop_named-then-r-eq-DROP_TRIGGER.ensures _ _ (at-first-flag.first_flag-first.ensures _ refl))

pub returns-then-r-eq-DROP_VIEW : goal.returns-then-r-eq-DROP_VIEW
unfolding shape
returns-then-r-eq-DROP_VIEW c r =
    let at-drop-named4 = c in
    let at-if7 = at-drop-named4 in
    let at-first-flag = at-if7 in
    let at-pass = at-first-flag in
    let at-if1 = at-pass in
    let at_read = at-if1 in
    node_on at_read.read-r.ensures DropView at-if7.if-r-eq-DROP_VIEW.true refl at-if1.if-left-eq0.false at-pass.pass-q.ensures (at-drop-named4.drop_named-then-r-eq-DROP_VIEW.ensures _ _ (at-first-flag.first_flag-first.ensures _ refl))

pub returns-then-r-eq-INSERT : goal.returns-then-r-eq-INSERT
unfolding shape
returns-then-r-eq-INSERT c r =
    let at-insert = c in
    let at-if8 = at-insert in
    let at-pass = at-if8 in
    let at-if1 = at-pass in
    let at_read = at-if1 in
    node_on at_read.read-r.ensures Insert at-if8.if-r-eq-INSERT.true refl at-if1.if-left-eq0.false at-pass.pass-q.ensures (at-insert.insert.ensures _)

pub returns-then-r-eq-PRAGMA : goal.returns-then-r-eq-PRAGMA
unfolding shape
returns-then-r-eq-PRAGMA c r =
    let at-pragma = c in
    let at-if9 = at-pragma in
    let at-pass = at-if9 in
    let at-if1 = at-pass in
    let at_read = at-if1 in
    node_on at_read.read-r.ensures Pragma at-if9.if-r-eq-PRAGMA.true refl at-if1.if-left-eq0.false at-pass.pass-q.ensures (at-pragma.pragma.ensures _ _)

pub returns-then-r-eq-REINDEX : goal.returns-then-r-eq-REINDEX
unfolding shape
returns-then-r-eq-REINDEX c r =
    let at-word-run2 = c in
    let at-if10 = at-word-run2 in
    let at-pass = at-if10 in
    let at-if1 = at-pass in
    let at_read = at-if1 in
    node_on at_read.read-r.ensures Reindex at-if10.if-r-eq-REINDEX.true refl at-if1.if-left-eq0.false at-pass.pass-q.ensures (optional_last (at-word-run2.word_run-then-r-eq-REINDEX.ensures _ _))

pub returns-then-r-eq-OPTIMIZE : goal.returns-then-r-eq-OPTIMIZE
unfolding shape
returns-then-r-eq-OPTIMIZE c r =
    let at-optimize = c in
    let at-if11 = at-optimize in
    let at-pass = at-if11 in
    let at-if1 = at-pass in
    let at_read = at-if1 in
    node_on at_read.read-r.ensures Optimize at-if11.if-r-eq-OPTIMIZE.true refl at-if1.if-left-eq0.false at-pass.pass-q.ensures (at-optimize.optimize.ensures _ _)

pub returns-then-r-eq-RELEASE : goal.returns-then-r-eq-RELEASE
unfolding shape
returns-then-r-eq-RELEASE c r =
    let at-word-run3 = c in
    let at-if12 = at-word-run3 in
    let at-pass = at-if12 in
    let at-if1 = at-pass in
    let at_read = at-if1 in
    node_on at_read.read-r.ensures Release at-if12.if-r-eq-RELEASE.true refl at-if1.if-left-eq0.false at-pass.pass-q.ensures (at-word-run3.word_run-then-r-eq-RELEASE.ensures _ _)

pub returns-then-r-eq-ROLLBACK : goal.returns-then-r-eq-ROLLBACK
unfolding shape
returns-then-r-eq-ROLLBACK c r =
    let at-rollback = c in
    let at-if13 = at-rollback in
    let at-pass = at-if13 in
    let at-if1 = at-pass in
    let at_read = at-if1 in
    node_on at_read.read-r.ensures Rollback at-if13.if-r-eq-ROLLBACK.true refl at-if1.if-left-eq0.false at-pass.pass-q.ensures (at-rollback.rollback.ensures _ _)

pub returns : goal.returns
returns c r =
    let at-run2 = c in
    let at-if13 = at-run2 in
    let at-if12 = at-if13 in
    let at-if11 = at-if12 in
    let at-if10 = at-if11 in
    let at-if9 = at-if10 in
    let at-if8 = at-if9 in
    let at-if7 = at-if8 in
    let at-if6 = at-if7 in
    let at-if5 = at-if6 in
    let at-if4 = at-if5 in
    let at-if3 = at-if4 in
    let at-if2 = at-if3 in
    let at_read = at-if2 in
    other at_read.read-r.ensures (at-run2.run-2.ensures _ r) (rw (ne_eqb _ Delete at-if2.if-r-eq-DELETE.false, ne_eqb _ Detach at-if3.if-r-eq-DETACH.false, ne_eqb _ DropIndex at-if4.if-r-eq-DROP_INDEX.false, ne_eqb _ DropTable at-if5.if-r-eq-DROP_TABLE.false, ne_eqb _ DropTrigger at-if6.if-r-eq-DROP_TRIGGER.false, ne_eqb _ DropView at-if7.if-r-eq-DROP_VIEW.false, ne_eqb _ Insert at-if8.if-r-eq-INSERT.false, ne_eqb _ Pragma at-if9.if-r-eq-PRAGMA.false, ne_eqb _ Reindex at-if10.if-r-eq-REINDEX.false, ne_eqb _ Optimize at-if11.if-r-eq-OPTIMIZE.false, ne_eqb _ Release at-if12.if-r-eq-RELEASE.false, ne_eqb _ Rollback at-if13.if-r-eq-ROLLBACK.false))
