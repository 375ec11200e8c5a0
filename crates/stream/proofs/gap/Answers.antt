-- `stream::gap` meets its contract: each way through it is one law.
use Rattle.stream.specs.Sink.{mark}
use Rattle.stream.specs.Laws.{gap_none, gap_one}
use borrow.Author.Rules.{rules}
use Rattle.stream.proofs.gap.Goals as goal

pub returns-then-s-tight : goal.returns-then-s-tight
returns-then-s-tight c = gap_none _ _ _ (search rules) c.tight.ensures c.if-s-tight.true

pub returns-else-s-tight : goal.returns-else-s-tight
unfolding mark
returns-else-s-tight c =
    let at-tight = c.tight in
    let at-if1 = c.if-s-tight in
    let at-put = c.put_byte-t in
    gap_one _ _ _ _ at-tight.ensures at-if1.false at-put.ensures
