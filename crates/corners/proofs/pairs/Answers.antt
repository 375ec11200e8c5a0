-- `corners::pairs` writes pairs of brackets: what is left to be written from here is what was to be written at the start.
use mathlib.Core.Path.{◌∙◌}
use Rattle.pen.specs.Laws.{puts_length, word_said}
use Rattle.corners.specs.Laws.{pairs_next, pairs_done}
use native.Mathlib.Omega.{arith}
use mathlib.Core.Path.{refl}
use Rattle.std.proofs.Math.Nat.{sub-zero}
use Rattle.corners.proofs.pairs.Goals as goal

pub loop-init : goal.loop-init
loop-init c = rw sub-zero refl

pub loop-preserved : goal.loop-preserved
loop-preserved c =
    let at-word2 = c in
    let at-word = at-word2 in
    let at-loop-test = at-word in
    let at-loop = at-loop-test in
    pairs_next _ _ at-loop-test.loop-test.true (word_said at-word.word-q.ensures) (word_said at-word2.word-q-in-loop.ensures) ∙ at-loop.loop.invariant

pub returns : goal.returns
returns c =
    let at-loop = c in
    pairs_done _ _ (omega (arith, c.loop-test.false)) at-loop.loop.invariant

pub shape_of-out : goal.shape_of-out
shape_of-out c = puts_length (returns c).puts
