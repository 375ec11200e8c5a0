-- `upsert::upsert_do` writes what stands there.
use mathlib.Core.Path.{refl}
use borrow.Author.Tests.{ne_eqb}
use Rattle.grammar.specs.Grammar.{shape}
use Rattle.grammar.specs.Kind.{UpsertSet, UpsertNothing}
use Rattle.pen.specs.Places.{shallow, other, node_on}
use Rattle.clause.proofs.upsert.upsert_do.Goals as goal

pub returns-then-left-eq0 : goal.returns-then-left-eq0
returns-then-left-eq0 c r =
    let at-run = c in
    let at-if1 = at-run in
    let at_read = at-if1 in
    shallow at_read.read-r.ensures (at-run.run.ensures _ r) at-if1.if-left-eq0.true refl

pub returns-then-r-eq-UPSERT_SET : goal.returns-then-r-eq-UPSERT_SET
unfolding shape
returns-then-r-eq-UPSERT_SET c r =
    let at-upsert-set = c in
    let at-if2 = at-upsert-set in
    let at-pass = at-if2 in
    let at-if1 = at-pass in
    let at_read = at-if1 in
    node_on at_read.read-r.ensures UpsertSet at-if2.if-r-eq-UPSERT_SET.true refl at-if1.if-left-eq0.false at-pass.pass-q.ensures (at-upsert-set.upsert_set.ensures _ _)

pub returns-then-r-eq-UPSERT_NOTHING : goal.returns-then-r-eq-UPSERT_NOTHING
unfolding shape
returns-then-r-eq-UPSERT_NOTHING c r =
    let at-upsert-nothing = c in
    let at-if3 = at-upsert-nothing in
    let at-pass = at-if3 in
    let at-if1 = at-pass in
    let at_read = at-if1 in
    node_on at_read.read-r.ensures UpsertNothing at-if3.if-r-eq-UPSERT_NOTHING.true refl at-if1.if-left-eq0.false at-pass.pass-q.ensures (at-upsert-nothing.upsert_nothing.ensures _ _ _)

pub returns : goal.returns
returns c r =
    let at-run2 = c in
    let at-if3 = at-run2 in
    let at-if2 = at-if3 in
    let at_read = at-if2 in
    other at_read.read-r.ensures (at-run2.run-2.ensures _ r) (rw (ne_eqb _ UpsertSet at-if2.if-r-eq-UPSERT_SET.false, ne_eqb _ UpsertNothing at-if3.if-r-eq-UPSERT_NOTHING.false))
