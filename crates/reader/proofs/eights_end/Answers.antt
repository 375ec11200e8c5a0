-- `reader::eights_end` meets its contract. The loop's invariant: where the bytes end is the same from the start and from `i` on.
use Rattle.std.proofs.Common.{arith, ◌∙◌}
use Rattle.reader.proofs.Laws.{takes_eight}
use Rattle.reader.proofs.eights_end.Goals as goal

pub loop-i-preserved : goal.loop-i-preserved
loop-i-preserved g c =
    let loop = c.loop-i in
    let more = c.loop-i-test.true in
    let inside = loop.invariant.0 in (
      omega (arith, more, inside),
      λ p is.
          loop.invariant.1 p is ∙ takes_eight p _ loop.i (omega (arith, more, inside)) (is _ _ c.sort.ensures) (is _ _ c.sort-in-loop-i.ensures)
          (is _ _ c.sort-in-loop-i-2.ensures) (is _ _ c.sort-in-loop-i-3.ensures) (is _ _ c.sort-in-loop-i-4.ensures) (is _ _ c.sort-in-loop-i-5.ensures)
          (is _ _ c.sort-in-loop-i-6.ensures) (is _ _ c.sort-in-loop-i-7.ensures) c.if-not-four-more.false,
    )
