-- `reader::long_end` meets its contract. The loop's invariant: where the bytes end is the same from the start and from `j` on.
use Rattle.std.proofs.Common.{arith, sym, ◌∙◌}
use Rattle.reader.specs.Laws.{takes_off}
use Rattle.reader.proofs.Laws.{takes_on}
use Rattle.reader.proofs.long_end.Goals as goal

pub returns-then-not-sort : goal.returns-then-not-sort
returns-then-not-sort g c =
    λ p is.
    let loop = c.loop-j in
    sym (loop.invariant p is ∙ takes_off p _ loop.j (omega arith) (sym (is _ _ c.sort.ensures) ∙ c.if-not-sort.true))

pub loop-j-preserved : goal.loop-j-preserved
loop-j-preserved g c =
    λ p is.
    let loop = c.loop-j in
    loop.invariant p is ∙ takes_on p _ loop.j (omega arith) (sym (is _ _ c.sort.ensures) ∙ c.if-not-sort.false)
