-- `select::list`: the list of what `clause_of` writes.
use Rattle.grammar.specs.Grammar.{node}
use Rattle.parts.specs.Laws.{list_of}
use Rattle.clause.specs.Held.{held}
use Rattle.clause.proofs.select.list.Goals as goal

pub returns : goal.returns
returns c r = list_of (node (held c.args.kind)) c.args.commas c.list.ensures (λ q r o o' b h. h.1)
