-- `reader::through_end` meets its contract. The loop's invariant: where the blob ends is the same from the start and from `i` on.
use mathlib.Core.Path.{sym, ◌∙◌}
use Rattle.reader.specs.Laws.{through_here, through_never}
use Rattle.reader.proofs.Laws.{through_on}
use Rattle.reader.proofs.through_end.Goals as goal

pub returns-then-text-i-eq-APOSTROPHE : goal.returns-then-text-i-eq-APOSTROPHE
returns-then-text-i-eq-APOSTROPHE c =
    let loop = c.loop-i in
    sym (loop.invariant ∙ through_here _ loop.i c.loop-i-test.true c.if-text-i-eq-APOSTROPHE.true)

pub loop-i-preserved : goal.loop-i-preserved
loop-i-preserved c = let loop = c.loop-i in loop.invariant ∙ through_on _ loop.i c.loop-i-test.true c.if-text-i-eq-APOSTROPHE.false

pub returns : goal.returns
returns c = let loop = c.loop-i in sym (loop.invariant ∙ through_never _ loop.i c.loop-i-test.false)
