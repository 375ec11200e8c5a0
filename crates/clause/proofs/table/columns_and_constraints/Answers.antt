-- `table::columns_and_constraints` writes its entry, a step a call.
use borrow.Author.Rules.{rules}
use Rattle.pen.specs.Laws.{◌▹◌, same, in_one}
use mathlib.Core.Bool.{true}
use mathlib.Core.List.{[], ◌∷◌}
use Rattle.grammar.specs.Kind.{ColumnDefinition}
use Rattle.parts.specs.Laws.{list_of}
use Rattle.grammar.specs.Grammar.{shape, node}
use Rattle.record.specs.Laws.{nothing as blank}
use Rattle.clause.proofs.table.columns_and_constraints.Goals as goal

pub returns : goal.returns
unfolding shape
returns c r =
    let at-options = c in
    let at-word2 = at-options in
    let at-constraints = at-word2 in
    let at-list = at-constraints in
    let at-word = at-list in
    (at-word.word-q.ensures _ _ r
    ▹ (in_one (list_of (node (ColumnDefinition ∷ [])) true at-list.list-q.ensures (λ q r o o' b h. search rules)) ▹ in_one (at-constraints.constraints-q.ensures r))
    ▹ at-word2.word-q-2.ensures _ _ r)
    ▹ at-options.options.ensures _ r

pub shape_of-out : goal.shape_of-out
shape_of-out c = same (returns c blank)
