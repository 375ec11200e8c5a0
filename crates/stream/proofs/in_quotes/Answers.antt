-- `stream::in_quotes` meets its contract: the value's three pieces join by the laws of the sink.
use Rattle.std.proofs.Common.{rules}
use Rattle.stream.specs.Laws.{quotes_poured}
use Rattle.stream.proofs.in_quotes.Goals as goal

pub returns : goal.returns
returns g c = quotes_poured _ _ _ _ _ (search rules) c.put-t.ensures c.pour_inside-t.ensures c.put.ensures
