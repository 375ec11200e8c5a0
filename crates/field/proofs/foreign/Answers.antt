-- `field::foreign` meets its contract: past record 1 there is nothing to ask, and of the first two it goes by the definition's tests.
use native.Mathlib.Omega.{arith}
use Rattle.field.specs.Steps.{foreign_later, foreign_head, foreign_second}
use Rattle.field.proofs.foreign.Goals as goal

pub returns-then-index-gt1 : goal.returns-then-index-gt1
returns-then-index-gt1 c = foreign_later _ _ c.if-index-gt1.true

pub returns-then-index-eq0 : goal.returns-then-index-eq0
returns-then-index-eq0 c =
    let at-if2 = c in
    let at_five = at-if2 in
    let at-start = at_five in
    foreign_head _ _ at-start.args.r at-start.requires _ at_five.of_the_five-stranger.ensures at-if2.if-index-eq0.true

pub returns : goal.returns
returns c =
    let at_read = c in
    let at-if2 = at_read in
    let at_five = at-if2 in
    let at-start = at_five in
    foreign_second _ _ at-start.args.r at-start.requires _ at_five.of_the_five-stranger.ensures _ at_read.read.ensures
    (omega (arith, at_five.if-index-gt1.false, at-if2.if-index-eq0.false))
