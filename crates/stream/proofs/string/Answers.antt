-- `stream::string` meets its contract: the space, the spelling, and the value between quotes.
use Rattle.std.proofs.Common.{rules, arith}
use Rattle.stream.specs.Sink.{mark}
use Rattle.stream.specs.Laws.{step_other, quotes_one}
use Rattle.stream.proofs.string.Goals as goal

pub returns : goal.returns
unfolding mark
returns g c = step_other _ _ _ _ _ _ _ (search rules) c.gap-t.ensures (λ e. omega arith) c.spell-u.ensures (quotes_one _ _ _ c.in_quotes-v.ensures)
