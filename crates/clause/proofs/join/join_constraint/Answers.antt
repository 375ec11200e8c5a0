-- `join::join_constraint` writes the constraint that stands there.
use mathlib.Core.Path.{refl}
use borrow.Author.Tests.{ne_eqb}
use Rattle.grammar.specs.Grammar.{shape}
use Rattle.grammar.specs.Kind.{On, Using}
use Rattle.pen.specs.Places.{shallow, other, node_on}
use Rattle.clause.proofs.join.join_constraint.Goals as goal

pub returns-then-left-eq0 : goal.returns-then-left-eq0
returns-then-left-eq0 c r =
    let at-run = c in
    let at-if1 = at-run in
    let at_read = at-if1 in
    shallow at_read.read-r.ensures (at-run.run.ensures _ r) at-if1.if-left-eq0.true refl

pub returns-then-r-eq-ON : goal.returns-then-r-eq-ON
unfolding shape
returns-then-r-eq-ON c r =
    let at_on = c in
    let at-if2 = at_on in
    let at-pass = at-if2 in
    let at-if1 = at-pass in
    let at_read = at-if1 in
    node_on at_read.read-r.ensures On at-if2.if-r-eq-ON.true refl at-if1.if-left-eq0.false at-pass.pass-q.ensures (at_on.on.ensures _ _)

pub returns-then-r-eq-USING : goal.returns-then-r-eq-USING
unfolding shape
returns-then-r-eq-USING c r =
    let at-using-columns = c in
    let at-if3 = at-using-columns in
    let at-pass = at-if3 in
    let at-if1 = at-pass in
    let at_read = at-if1 in
    node_on at_read.read-r.ensures Using at-if3.if-r-eq-USING.true refl at-if1.if-left-eq0.false at-pass.pass-q.ensures (at-using-columns.using_columns.ensures _ _)

pub returns : goal.returns
returns c r =
    let at-run2 = c in
    let at-if3 = at-run2 in
    let at-if2 = at-if3 in
    let at_read = at-if2 in
    other at_read.read-r.ensures (at-run2.run-2.ensures _ r) (rw (ne_eqb _ On at-if2.if-r-eq-ON.false, ne_eqb _ Using at-if3.if-r-eq-USING.false))
