-- `create_table::create_table_body` writes the body that stands there.
use mathlib.Core.Path.{refl}
use borrow.Author.Tests.{ne_eqb}
use Rattle.grammar.specs.Grammar.{shape}
use Rattle.grammar.specs.Kind.{ColumnsAndConstraints, AsSelect}
use Rattle.pen.specs.Laws.{in_one}
use Rattle.pen.specs.Places.{shallow, other, node_on}
use Rattle.clause.proofs.create_table.create_table_body.Goals as goal

pub returns-then-left-eq0 : goal.returns-then-left-eq0
returns-then-left-eq0 c r =
    let at-run = c in
    let at-if1 = at-run in
    let at_read = at-if1 in
    shallow at_read.read-r.ensures (in_one (at-run.run.ensures _ r)) at-if1.if-left-eq0.true refl

pub returns-then-r-eq-COLUMNS_AND_CONSTRAINTS : goal.returns-then-r-eq-COLUMNS_AND_CONSTRAINTS
unfolding shape
returns-then-r-eq-COLUMNS_AND_CONSTRAINTS c r =
    let at-columns-and-constraints = c in
    let at-if2 = at-columns-and-constraints in
    let at-pass = at-if2 in
    let at-if1 = at-pass in
    let at_read = at-if1 in
    node_on at_read.read-r.ensures ColumnsAndConstraints at-if2.if-r-eq-COLUMNS_AND_CONSTRAINTS.true refl at-if1.if-left-eq0.false at-pass.pass-q.ensures (at-columns-and-constraints.columns_and_constraints.ensures _)

pub returns-then-r-eq-AS_SELECT : goal.returns-then-r-eq-AS_SELECT
unfolding shape
returns-then-r-eq-AS_SELECT c r =
    let at-as-select = c in
    let at-if3 = at-as-select in
    let at-pass = at-if3 in
    let at-if1 = at-pass in
    let at_read = at-if1 in
    node_on at_read.read-r.ensures AsSelect at-if3.if-r-eq-AS_SELECT.true refl at-if1.if-left-eq0.false at-pass.pass-q.ensures (in_one (at-as-select.as_select.ensures _))

pub returns : goal.returns
returns c r =
    let at-run2 = c in
    let at-if3 = at-run2 in
    let at-if2 = at-if3 in
    let at_read = at-if2 in
    other at_read.read-r.ensures (in_one (at-run2.run-2.ensures _ r)) (rw (ne_eqb _ ColumnsAndConstraints at-if2.if-r-eq-COLUMNS_AND_CONSTRAINTS.false, ne_eqb _ AsSelect at-if3.if-r-eq-AS_SELECT.false))
