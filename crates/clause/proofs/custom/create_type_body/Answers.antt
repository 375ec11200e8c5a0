-- `custom::create_type_body` writes the body that stands there.
use mathlib.Core.Path.{refl}
use borrow.Author.Tests.{ne_eqb}
use Rattle.grammar.specs.Grammar.{shape}
use Rattle.grammar.specs.Kind.{Struct, Union, CustomType}
use Rattle.pen.specs.Laws.{in_one}
use Rattle.pen.specs.Places.{shallow, other, node_on}
use Rattle.clause.proofs.custom.create_type_body.Goals as goal

pub returns-then-left-eq0 : goal.returns-then-left-eq0
returns-then-left-eq0 c r =
    let at-run = c in
    let at-if1 = at-run in
    let at_read = at-if1 in
    shallow at_read.read-r.ensures (in_one (at-run.run.ensures _ r)) at-if1.if-left-eq0.true refl

pub returns-then-r-eq-STRUCT : goal.returns-then-r-eq-STRUCT
unfolding shape
returns-then-r-eq-STRUCT c r =
    let at-type-fields = c in
    let at-if2 = at-type-fields in
    let at-pass = at-if2 in
    let at-if1 = at-pass in
    let at_read = at-if1 in
    node_on at_read.read-r.ensures Struct at-if2.if-r-eq-STRUCT.true refl at-if1.if-left-eq0.false at-pass.pass-q.ensures (in_one (at-type-fields.type_fields.ensures _ refl _))

pub returns-then-r-eq-UNION : goal.returns-then-r-eq-UNION
unfolding shape
returns-then-r-eq-UNION c r =
    let at-type-fields2 = c in
    let at-if3 = at-type-fields2 in
    let at-pass = at-if3 in
    let at-if1 = at-pass in
    let at_read = at-if1 in
    node_on at_read.read-r.ensures Union at-if3.if-r-eq-UNION.true refl at-if1.if-left-eq0.false at-pass.pass-q.ensures (in_one (at-type-fields2.type_fields-then-r-eq-UNION.ensures _ refl _))

pub returns-then-r-eq-CUSTOM_TYPE : goal.returns-then-r-eq-CUSTOM_TYPE
unfolding shape
returns-then-r-eq-CUSTOM_TYPE c r =
    let at-custom-type = c in
    let at-if4 = at-custom-type in
    let at-pass = at-if4 in
    let at-if1 = at-pass in
    let at_read = at-if1 in
    node_on at_read.read-r.ensures CustomType at-if4.if-r-eq-CUSTOM_TYPE.true refl at-if1.if-left-eq0.false at-pass.pass-q.ensures (at-custom-type.custom_type.ensures _)

pub returns : goal.returns
returns c r =
    let at-run2 = c in
    let at-if4 = at-run2 in
    let at-if3 = at-if4 in
    let at-if2 = at-if3 in
    let at_read = at-if2 in
    other at_read.read-r.ensures (in_one (at-run2.run-2.ensures _ r)) (rw (ne_eqb _ Struct at-if2.if-r-eq-STRUCT.false, ne_eqb _ Union at-if3.if-r-eq-UNION.false, ne_eqb _ CustomType at-if4.if-r-eq-CUSTOM_TYPE.false))
