-- `parts::comma` is the list of RUNs with commas.
use mathlib.Core.Bool.{true}
use Rattle.grammar.specs.Grammar.{run}
use Rattle.parts.specs.Laws.{list_of}
use Rattle.parts.proofs.comma.Goals as goal

pub returns : goal.returns
returns c d r = list_of run true c.list.ensures (λ q r o o' b h. h.1 d)
