-- `source::in_quote` meets its contract: a quote like the one that opened ends it, and any other byte stays in it.
use Rattle.source.specs.Laws.{quote_over, quote_on}
use Rattle.source.proofs.in_quote.Goals as goal

pub returns-then-b-q : goal.returns-then-b-q
returns-then-b-q c = λ s. rw c.if-b-q.true (quote_over _ s)

pub returns-else-b-q : goal.returns-else-b-q
returns-else-b-q c = quote_on _ _ c.if-b-q.false
