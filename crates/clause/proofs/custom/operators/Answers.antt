-- `custom::operators` is the list of operator clauses.
use borrow.Author.Rules.{rules}
use mathlib.Core.Bool.{false}
use mathlib.Core.List.{[], ◌∷◌}
use Rattle.grammar.specs.Kind.{OperatorClause}
use Rattle.grammar.specs.Grammar.{node}
use Rattle.parts.specs.Laws.{list_of_one}
use Rattle.clause.proofs.custom.operators.Goals as goal

pub returns : goal.returns
returns c r = list_of_one (node (OperatorClause ∷ [])) false c.list.ensures (λ q r o o' b h. search rules)
