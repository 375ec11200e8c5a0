-- `stmt_to_drop_domain` writes the statement that stands there.
use mathlib.Core.Path.{refl}
use borrow.Author.Tests.{ne_eqb}
use Rattle.grammar.specs.Grammar.{shape}
use Rattle.grammar.specs.Kind.{Savepoint, SelectStmt, Update, Vacuum, CreateType, CreateDomain, DropType, CreateSequence, DropSequence, DropDomain}
use Rattle.pen.specs.Laws.{in_one}
use Rattle.pen.specs.Places.{shallow, other, node_on}
use Rattle.stmt.proofs.stmt_to_drop_domain.Goals as goal

pub returns-then-left-eq0 : goal.returns-then-left-eq0
returns-then-left-eq0 c r =
    let at-run = c in
    let at-if1 = at-run in
    let at_read = at-if1 in
    shallow at_read.read-r.ensures (in_one (at-run.run.ensures _ r)) at-if1.if-left-eq0.true refl

pub returns-then-r-eq-SAVEPOINT : goal.returns-then-r-eq-SAVEPOINT
unfolding shape
returns-then-r-eq-SAVEPOINT c r =
    let at-word-run = c in
    let at-if2 = at-word-run in
    let at-pass = at-if2 in
    let at-if1 = at-pass in
    let at_read = at-if1 in
    node_on at_read.read-r.ensures Savepoint at-if2.if-r-eq-SAVEPOINT.true refl at-if1.if-left-eq0.false at-pass.pass-q.ensures (in_one (at-word-run.word_run.ensures _ _))

pub returns-then-r-eq-SELECT_STMT : goal.returns-then-r-eq-SELECT_STMT
unfolding shape
returns-then-r-eq-SELECT_STMT c r =
    let at-select = c in
    let at-if3 = at-select in
    let at-pass = at-if3 in
    let at-if1 = at-pass in
    let at_read = at-if1 in
    node_on at_read.read-r.ensures SelectStmt at-if3.if-r-eq-SELECT_STMT.true refl at-if1.if-left-eq0.false at-pass.pass-q.ensures (in_one (at-select.select.ensures _))

pub returns-then-r-eq-UPDATE : goal.returns-then-r-eq-UPDATE
unfolding shape
returns-then-r-eq-UPDATE c r =
    let at-update = c in
    let at-if4 = at-update in
    let at-pass = at-if4 in
    let at-if1 = at-pass in
    let at_read = at-if1 in
    node_on at_read.read-r.ensures Update at-if4.if-r-eq-UPDATE.true refl at-if1.if-left-eq0.false at-pass.pass-q.ensures (in_one (at-update.update.ensures _))

pub returns-then-r-eq-VACUUM : goal.returns-then-r-eq-VACUUM
unfolding shape
returns-then-r-eq-VACUUM c r =
    let at-vacuum = c in
    let at-if5 = at-vacuum in
    let at-pass = at-if5 in
    let at-if1 = at-pass in
    let at_read = at-if1 in
    node_on at_read.read-r.ensures Vacuum at-if5.if-r-eq-VACUUM.true refl at-if1.if-left-eq0.false at-pass.pass-q.ensures (in_one (at-vacuum.vacuum.ensures _ _))

pub returns-then-r-eq-CREATE_TYPE : goal.returns-then-r-eq-CREATE_TYPE
unfolding shape
returns-then-r-eq-CREATE_TYPE c r =
    let at-create-type = c in
    let at-if6 = at-create-type in
    let at-first-flag = at-if6 in
    let at-pass = at-first-flag in
    let at-if1 = at-pass in
    let at_read = at-if1 in
    node_on at_read.read-r.ensures CreateType at-if6.if-r-eq-CREATE_TYPE.true refl at-if1.if-left-eq0.false at-pass.pass-q.ensures (at-create-type.create_type.ensures _ (at-first-flag.first_flag-first.ensures _ refl))

pub returns-then-r-eq-CREATE_DOMAIN : goal.returns-then-r-eq-CREATE_DOMAIN
unfolding shape
returns-then-r-eq-CREATE_DOMAIN c r =
    let at-create-domain = c in
    let at-if7 = at-create-domain in
    let at-second-flag = at-if7 in
    let at-first-flag = at-second-flag in
    let at-pass = at-first-flag in
    let at-if1 = at-pass in
    let at_read = at-if1 in
    node_on at_read.read-r.ensures CreateDomain at-if7.if-r-eq-CREATE_DOMAIN.true refl at-if1.if-left-eq0.false at-pass.pass-q.ensures (in_one (at-create-domain.create_domain.ensures _ (at-first-flag.first_flag-first.ensures _ refl) (at-second-flag.second_flag-second.ensures _ refl)))

pub returns-then-r-eq-DROP_TYPE : goal.returns-then-r-eq-DROP_TYPE
unfolding shape
returns-then-r-eq-DROP_TYPE c r =
    let at-drop-type = c in
    let at-if8 = at-drop-type in
    let at-first-flag = at-if8 in
    let at-pass = at-first-flag in
    let at-if1 = at-pass in
    let at_read = at-if1 in
    node_on at_read.read-r.ensures DropType at-if8.if-r-eq-DROP_TYPE.true refl at-if1.if-left-eq0.false at-pass.pass-q.ensures (in_one (at-drop-type.drop_type.ensures _ _ (at-first-flag.first_flag-first.ensures _ refl)))

pub returns-then-r-eq-CREATE_SEQUENCE : goal.returns-then-r-eq-CREATE_SEQUENCE
unfolding shape
returns-then-r-eq-CREATE_SEQUENCE c r =
    let at-create-sequence = c in
    let at-if9 = at-create-sequence in
    let at-second-flag = at-if9 in
    let at-first-flag = at-second-flag in
    let at-pass = at-first-flag in
    let at-if1 = at-pass in
    let at_read = at-if1 in
    node_on at_read.read-r.ensures CreateSequence at-if9.if-r-eq-CREATE_SEQUENCE.true refl at-if1.if-left-eq0.false at-pass.pass-q.ensures (in_one (at-create-sequence.create_sequence.ensures _ _ (at-first-flag.first_flag-first.ensures _ refl) (at-second-flag.second_flag-second.ensures _ refl)))

pub returns-then-r-eq-DROP_SEQUENCE : goal.returns-then-r-eq-DROP_SEQUENCE
unfolding shape
returns-then-r-eq-DROP_SEQUENCE c r =
    let at-drop-sequence = c in
    let at-if10 = at-drop-sequence in
    let at-first-flag = at-if10 in
    let at-pass = at-first-flag in
    let at-if1 = at-pass in
    let at_read = at-if1 in
    node_on at_read.read-r.ensures DropSequence at-if10.if-r-eq-DROP_SEQUENCE.true refl at-if1.if-left-eq0.false at-pass.pass-q.ensures (in_one (at-drop-sequence.drop_sequence.ensures _ _ (at-first-flag.first_flag-first.ensures _ refl)))

pub returns-then-r-eq-DROP_DOMAIN : goal.returns-then-r-eq-DROP_DOMAIN
unfolding shape
returns-then-r-eq-DROP_DOMAIN c r =
    let at-drop-domain = c in
    let at-if11 = at-drop-domain in
    let at-first-flag = at-if11 in
    let at-pass = at-first-flag in
    let at-if1 = at-pass in
    let at_read = at-if1 in
    node_on at_read.read-r.ensures DropDomain at-if11.if-r-eq-DROP_DOMAIN.true refl at-if1.if-left-eq0.false at-pass.pass-q.ensures (in_one (at-drop-domain.drop_domain.ensures _ _ (at-first-flag.first_flag-first.ensures _ refl)))

pub returns : goal.returns
returns c r =
    let at-run2 = c in
    let at-if11 = at-run2 in
    let at-if10 = at-if11 in
    let at-if9 = at-if10 in
    let at-if8 = at-if9 in
    let at-if7 = at-if8 in
    let at-if6 = at-if7 in
    let at-if5 = at-if6 in
    let at-if4 = at-if5 in
    let at-if3 = at-if4 in
    let at-if2 = at-if3 in
    let at_read = at-if2 in
    other at_read.read-r.ensures (in_one (at-run2.run-2.ensures _ r)) (rw (ne_eqb _ Savepoint at-if2.if-r-eq-SAVEPOINT.false, ne_eqb _ SelectStmt at-if3.if-r-eq-SELECT_STMT.false, ne_eqb _ Update at-if4.if-r-eq-UPDATE.false, ne_eqb _ Vacuum at-if5.if-r-eq-VACUUM.false, ne_eqb _ CreateType at-if6.if-r-eq-CREATE_TYPE.false, ne_eqb _ CreateDomain at-if7.if-r-eq-CREATE_DOMAIN.false, ne_eqb _ DropType at-if8.if-r-eq-DROP_TYPE.false, ne_eqb _ CreateSequence at-if9.if-r-eq-CREATE_SEQUENCE.false, ne_eqb _ DropSequence at-if10.if-r-eq-DROP_SEQUENCE.false, ne_eqb _ DropDomain at-if11.if-r-eq-DROP_DOMAIN.false))
