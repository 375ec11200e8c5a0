-- `parts::each` is the list of RUNs with none.
use mathlib.Core.Bool.{false}
use Rattle.grammar.specs.Grammar.{run}
use Rattle.parts.specs.Laws.{list_of}
use Rattle.parts.proofs.each.Goals as goal

pub returns : goal.returns
returns c d r = list_of run false c.list.ensures (λ q r o o' b h. h.1 d)
