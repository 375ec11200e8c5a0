-- `custom::type_fields`: each call is a step of its shape.
use borrow.Author.Rules.{rules}
use Rattle.pen.specs.Laws.{◌▹◌, a_said}
use mathlib.Core.List.{[], ◌∷◌}
use Rattle.grammar.specs.Kind.{TypeField}
use Rattle.grammar.specs.Grammar.{node}
use Rattle.clause.proofs.custom.type_fields.Goals as goal

pub returns : goal.returns
returns c v h r =
    let at_fields = c in
    let at-said = at_fields in
    let at-word = at-said in
    at-word.word-q.ensures _ _ r
    ▹ a_said v h at-said.said-q.ensures
    ▹ at_fields.elements_in_parens.ensures _ (node (TypeField ∷ [])) (λ q r o o' b h. search rules) r
