-- `stream::twice` meets its contract: each way through it is one law.
use borrow.Author.Rules.{rules}
use Rattle.stream.specs.Doubled.{byte_once}
use Rattle.stream.proofs.Quotes.{quote_twice}
use Rattle.stream.proofs.twice.Goals as goal

pub returns-then-b-eq-QUOTE : goal.returns-then-b-eq-QUOTE
returns-then-b-eq-QUOTE c =
    let at_second = c in
    let at-if1 = at_second in
    let at_first = at-if1 in
    quote_twice _ _ _ _ (search rules) at-if1.if-b-eq-QUOTE.true at_first.put_byte-t.ensures at_second.put_byte.ensures

pub returns-else-b-eq-QUOTE : goal.returns-else-b-eq-QUOTE
returns-else-b-eq-QUOTE c = byte_once _ _ _ c.if-b-eq-QUOTE.false c.put_byte-t.ensures
