-- `constraint::table_constraint` writes the constraint that stands there.
use mathlib.Core.Path.{refl}
use borrow.Author.Tests.{ne_eqb}
use Rattle.grammar.specs.Grammar.{shape}
use Rattle.grammar.specs.Kind.{PrimaryKey, Unique, Check, ForeignKey}
use Rattle.pen.specs.Places.{shallow, other, node_on}
use Rattle.clause.proofs.constraint.table_constraint.Goals as goal

pub returns-then-left-eq0 : goal.returns-then-left-eq0
returns-then-left-eq0 c r =
    let at-run = c in
    let at-if1 = at-run in
    let at_read = at-if1 in
    shallow at_read.read-r.ensures (at-run.run.ensures _ r) at-if1.if-left-eq0.true refl

pub returns-then-r-eq-PRIMARY_KEY : goal.returns-then-r-eq-PRIMARY_KEY
unfolding shape
returns-then-r-eq-PRIMARY_KEY c r =
    let at-primary-key = c in
    let at-if2 = at-primary-key in
    let at-first-flag = at-if2 in
    let at-pass = at-first-flag in
    let at-if1 = at-pass in
    let at_read = at-if1 in
    node_on at_read.read-r.ensures PrimaryKey at-if2.if-r-eq-PRIMARY_KEY.true refl at-if1.if-left-eq0.false at-pass.pass-q.ensures (at-primary-key.primary_key.ensures _ _ (at-first-flag.first_flag-auto_increment.ensures _ refl))

pub returns-then-r-eq-UNIQUE : goal.returns-then-r-eq-UNIQUE
unfolding shape
returns-then-r-eq-UNIQUE c r =
    let at-unique = c in
    let at-if3 = at-unique in
    let at-pass = at-if3 in
    let at-if1 = at-pass in
    let at_read = at-if1 in
    node_on at_read.read-r.ensures Unique at-if3.if-r-eq-UNIQUE.true refl at-if1.if-left-eq0.false at-pass.pass-q.ensures (at-unique.unique.ensures _ _)

pub returns-then-r-eq-CHECK : goal.returns-then-r-eq-CHECK
unfolding shape
returns-then-r-eq-CHECK c r =
    let at-check = c in
    let at-if4 = at-check in
    let at-pass = at-if4 in
    let at-if1 = at-pass in
    let at_read = at-if1 in
    node_on at_read.read-r.ensures Check at-if4.if-r-eq-CHECK.true refl at-if1.if-left-eq0.false at-pass.pass-q.ensures (at-check.check.ensures _ _)

pub returns-then-r-eq-FOREIGN_KEY : goal.returns-then-r-eq-FOREIGN_KEY
unfolding shape
returns-then-r-eq-FOREIGN_KEY c r =
    let at-foreign-key = c in
    let at-if5 = at-foreign-key in
    let at-pass = at-if5 in
    let at-if1 = at-pass in
    let at_read = at-if1 in
    node_on at_read.read-r.ensures ForeignKey at-if5.if-r-eq-FOREIGN_KEY.true refl at-if1.if-left-eq0.false at-pass.pass-q.ensures (at-foreign-key.foreign_key.ensures _)

pub returns : goal.returns
returns c r =
    let at-run2 = c in
    let at-if5 = at-run2 in
    let at-if4 = at-if5 in
    let at-if3 = at-if4 in
    let at-if2 = at-if3 in
    let at_read = at-if2 in
    other at_read.read-r.ensures (at-run2.run-2.ensures _ r) (rw (ne_eqb _ PrimaryKey at-if2.if-r-eq-PRIMARY_KEY.false, ne_eqb _ Unique at-if3.if-r-eq-UNIQUE.false, ne_eqb _ Check at-if4.if-r-eq-CHECK.false, ne_eqb _ ForeignKey at-if5.if-r-eq-FOREIGN_KEY.false))
