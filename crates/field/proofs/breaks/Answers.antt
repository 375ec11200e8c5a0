-- `field::breaks` meets its contract: it goes by the tests of `breaks_by`, one behind the other.
use borrow.Author.Tests.{eq-eqb, ne_eqb}
use Rattle.field.specs.Nodes.{breaks_by}
use Rattle.field.proofs.breaks.Goals as goal

pub returns-then-left-eq0 : goal.returns-then-left-eq0
unfolding breaks_by
returns-then-left-eq0 c = rw (eq-eqb _ 0 c.if-left-eq0.true)

pub returns-then-r-place : goal.returns-then-r-place
unfolding breaks_by
returns-then-r-place c =
    let at-if1 = c in
    rw (ne_eqb _ 0 at-if1.if-left-eq0.false, ← at-if1.requires, c.if-r-place.true)

pub returns : goal.returns
unfolding breaks_by
returns c =
    let at-if2 = c in
    let at-if1 = at-if2 in
    rw (ne_eqb _ 0 at-if1.if-left-eq0.false, ← at-if1.requires, at-if2.if-r-place.false) c.foreign.ensures
