-- `white::split` meets its contract. The loop's invariant: the parts passed are counted, no White_Space character stands at `at`, and the parts of what is left are the text's others.
use native.Mathlib.Omega.{arith}
use Rattle.white.proofs.Count.{none_passed, one_passed, all_passed}
use Rattle.white.proofs.split.Goals as goal

pub loop-at-init : goal.loop-at-init
loop-at-init c = (c.skip_white-at.ensures.within, c.skip_white-at.ensures.none, none_passed _ _ c.skip_white-at.ensures)

pub skip_part-end-requires : goal.skip_part-end-requires
skip_part-end-requires c = (c.loop-at-test.true, c.loop-at.invariant.1)

pub count_part-p-requires : goal.count_part-p-requires
count_part-p-requires c = omega (arith, c.loop-at.invariant.2.few, c.skip_part-end.ensures.past)

pub skip_white-at-requires-in-loop-at : goal.skip_white-at-requires-in-loop-at
skip_white-at-requires-in-loop-at c = c.skip_part-end.ensures.within

pub loop-at-smaller : goal.loop-at-smaller
loop-at-smaller c = omega (arith, c.skip_part-end.ensures.past, c.skip_white-at-in-loop-at.ensures.past)

pub loop-at-preserved : goal.loop-at-preserved
loop-at-preserved c =
    let at-loop = c.loop-at in
    let at-skip-part = c.skip_part-end in
    (c.skip_white-at-in-loop-at.ensures.within, c.skip_white-at-in-loop-at.ensures.none, one_passed _ _ _ _ _ _ at-loop.invariant.2 at-skip-part.ensures c.count_part-p.ensures c.skip_white-at-in-loop-at.ensures)

pub returns : goal.returns
returns c = all_passed _ _ _ c.loop-at-test.false c.loop-at.invariant.2
