-- `table::alter_table_body` writes the change that stands there.
use mathlib.Core.Path.{refl}
use borrow.Author.Tests.{ne_eqb}
use Rattle.grammar.specs.Grammar.{shape}
use Rattle.grammar.specs.Kind.{RenameTo, AddColumn, AlterColumn, RenameColumn, DropColumn}
use Rattle.pen.specs.Places.{shallow, other, node_on}
use Rattle.clause.proofs.table.alter_table_body.Goals as goal

pub returns-then-left-eq0 : goal.returns-then-left-eq0
returns-then-left-eq0 c r =
    let at-run = c in
    let at-if1 = at-run in
    let at_read = at-if1 in
    shallow at_read.read-r.ensures (at-run.run.ensures _ r) at-if1.if-left-eq0.true refl

pub returns-then-r-eq-RENAME_TO : goal.returns-then-r-eq-RENAME_TO
unfolding shape
returns-then-r-eq-RENAME_TO c r =
    let at-rename-to = c in
    let at-if2 = at-rename-to in
    let at-pass = at-if2 in
    let at-if1 = at-pass in
    let at_read = at-if1 in
    node_on at_read.read-r.ensures RenameTo at-if2.if-r-eq-RENAME_TO.true refl at-if1.if-left-eq0.false at-pass.pass-q.ensures (at-rename-to.rename_to.ensures _ _)

pub returns-then-r-eq-ADD_COLUMN : goal.returns-then-r-eq-ADD_COLUMN
unfolding shape
returns-then-r-eq-ADD_COLUMN c r =
    let at-add-column = c in
    let at-if3 = at-add-column in
    let at-pass = at-if3 in
    let at-if1 = at-pass in
    let at_read = at-if1 in
    node_on at_read.read-r.ensures AddColumn at-if3.if-r-eq-ADD_COLUMN.true refl at-if1.if-left-eq0.false at-pass.pass-q.ensures (at-add-column.add_column.ensures _)

pub returns-then-r-eq-ALTER_COLUMN : goal.returns-then-r-eq-ALTER_COLUMN
unfolding shape
returns-then-r-eq-ALTER_COLUMN c r =
    let at-alter-column = c in
    let at-if4 = at-alter-column in
    let at-pass = at-if4 in
    let at-if1 = at-pass in
    let at_read = at-if1 in
    node_on at_read.read-r.ensures AlterColumn at-if4.if-r-eq-ALTER_COLUMN.true refl at-if1.if-left-eq0.false at-pass.pass-q.ensures (at-alter-column.alter_column.ensures _)

pub returns-then-r-eq-RENAME_COLUMN : goal.returns-then-r-eq-RENAME_COLUMN
unfolding shape
returns-then-r-eq-RENAME_COLUMN c r =
    let at-rename-column = c in
    let at-if5 = at-rename-column in
    let at-pass = at-if5 in
    let at-if1 = at-pass in
    let at_read = at-if1 in
    node_on at_read.read-r.ensures RenameColumn at-if5.if-r-eq-RENAME_COLUMN.true refl at-if1.if-left-eq0.false at-pass.pass-q.ensures (at-rename-column.rename_column.ensures _ _)

pub returns-then-r-eq-DROP_COLUMN : goal.returns-then-r-eq-DROP_COLUMN
unfolding shape
returns-then-r-eq-DROP_COLUMN c r =
    let at-drop-column = c in
    let at-if6 = at-drop-column in
    let at-pass = at-if6 in
    let at-if1 = at-pass in
    let at_read = at-if1 in
    node_on at_read.read-r.ensures DropColumn at-if6.if-r-eq-DROP_COLUMN.true refl at-if1.if-left-eq0.false at-pass.pass-q.ensures (at-drop-column.drop_column.ensures _ _)

pub returns : goal.returns
returns c r =
    let at-run2 = c in
    let at-if6 = at-run2 in
    let at-if5 = at-if6 in
    let at-if4 = at-if5 in
    let at-if3 = at-if4 in
    let at-if2 = at-if3 in
    let at_read = at-if2 in
    other at_read.read-r.ensures (at-run2.run-2.ensures _ r) (rw (ne_eqb _ RenameTo at-if2.if-r-eq-RENAME_TO.false, ne_eqb _ AddColumn at-if3.if-r-eq-ADD_COLUMN.false, ne_eqb _ AlterColumn at-if4.if-r-eq-ALTER_COLUMN.false, ne_eqb _ RenameColumn at-if5.if-r-eq-RENAME_COLUMN.false, ne_eqb _ DropColumn at-if6.if-r-eq-DROP_COLUMN.false))
