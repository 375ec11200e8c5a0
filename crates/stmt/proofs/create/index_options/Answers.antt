-- `create::index_options` passes over an empty LIST.
use borrow.Author.Rules.{rules}
use Rattle.pen.specs.Laws.{◌▹◌}
use Rattle.pen.specs.Places.{filled_none, filled_some}
use mathlib.Core.List.{[], ◌∷◌}
use Rattle.grammar.specs.Kind.{Pair}
use Rattle.grammar.specs.Grammar.{node}
use Rattle.stmt.proofs.create.index_options.Goals as goal

pub returns-then-r-eq0 : goal.returns-then-r-eq0
returns-then-r-eq0 c r =
    let at-if1 = c in
    let at_read = at-if1 in
    filled_none at_read.read-r.ensures at-if1.if-r-eq0.true c.pass.ensures

pub returns : goal.returns
returns c r =
    let at-list = c in
    let at-word = at-list in
    let at-if1 = at-word in
    let at_read = at-if1 in
    filled_some at_read.read-r.ensures at-if1.if-r-eq0.false (at-word.word-q.ensures _ _ r ▹ at-list.elements_in_parens.ensures _ (node (Pair ∷ [])) (λ q r o o' b h. search rules) r)
