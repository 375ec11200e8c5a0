-- `create::create_domain` writes its entry, a step a call.
use borrow.Author.Rules.{rules}
use Rattle.pen.specs.Laws.{◌▹◌, a_said}
use mathlib.Core.Bool.{false}
use mathlib.Core.List.{[], ◌∷◌}
use Rattle.grammar.specs.Kind.{DomainConstraint}
use Rattle.parts.specs.Laws.{list_of}
use Rattle.grammar.specs.Grammar.{shape, node}
use mathlib.Core.Path.{refl}
use Rattle.stmt.specs.Laws.{same_two}
use Rattle.stmt.proofs.create.create_domain.Goals as goal

pub returns : goal.returns
unfolding shape
returns c r h g =
    let at-list = c in
    let at-not-null = at-list in
    let at-clause = at-not-null in
    let at-name2 = at-clause in
    let at-word2 = at-name2 in
    let at_name = at-word2 in
    let at-if-not-exists = at_name in
    let at-said = at-if-not-exists in
    let at-word = at-said in
    at-word.word-q.ensures _ _ r
    ▹ a_said _ refl at-said.said-q.ensures
    ▹ at-if-not-exists.if_not_exists-q.ensures _ _ r _ h
    ▹ at_name.name-q.ensures _ r
    ▹ at-word2.word-q-2.ensures _ _ r
    ▹ at-name2.name-q-2.ensures _ r
    ▹ at-clause.clause-q.ensures _ r
    ▹ at-not-null.not_null-q.ensures _ _ r _ g
    ▹ list_of (node (DomainConstraint ∷ [])) false at-list.list.ensures (λ q r o o' b h. search rules)

pub shape_of-out : goal.shape_of-out
shape_of-out c = same_two (returns c)
