-- `reader::read_kind` meets its contract: what `next` finds is stored, and the part behind its end handed back.
use borrow.Author.Rules.{rules}
use Rattle.laws.specs.Rest.{rest}
use Rattle.reader.proofs.read_kind.Goals as goal

pub returns : goal.returns
returns c =
    let next = c.next-l in
    rw (rest _ next.result.end) next.ensures.gives

pub slice_bounds-result-count : goal.slice_bounds-result-count
slice_bounds-result-count c = c.next-l.ensures.inside

pub slice_bounds-result-start : goal.slice_bounds-result-start
slice_bounds-result-start c = c.next-l.ensures.inside
