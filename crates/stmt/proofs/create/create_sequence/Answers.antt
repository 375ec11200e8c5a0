-- `create::create_sequence` writes its entry, a step a call.
use Rattle.pen.specs.Laws.{◌▹◌, a_said}
use Rattle.grammar.specs.Grammar.{shape}
use mathlib.Core.Path.{refl}
use Rattle.stmt.specs.Laws.{same_two}
use Rattle.stmt.proofs.create.create_sequence.Goals as goal

pub returns : goal.returns
unfolding shape
returns c d r h g =
    let at-cycles = c in
    let at-number-clause2 = at-cycles in
    let at-number-clause = at-number-clause2 in
    let at-number-clause-of-two2 = at-number-clause in
    let at-number-clause-of-two = at-number-clause-of-two2 in
    let at-run = at-number-clause-of-two in
    let at-if-not-exists = at-run in
    let at-said = at-if-not-exists in
    let at-word = at-said in
    at-word.word-q.ensures _ _ r
    ▹ a_said _ refl at-said.said-q.ensures
    ▹ at-if-not-exists.if_not_exists-q.ensures _ _ r _ h
    ▹ at-run.run-q.ensures _ r
    ▹ at-number-clause-of-two.number_clause_of_two-q.ensures _ refl _ refl _ r
    ▹ at-number-clause-of-two2.number_clause_of_two-q-2.ensures _ refl _ refl _ r
    ▹ at-number-clause.number_clause-q.ensures _ refl _ r
    ▹ at-number-clause2.number_clause-q-2.ensures _ refl _ r
    ▹ at-cycles.cycles.ensures _ _ r _ g

pub shape_of-out : goal.shape_of-out
shape_of-out c = same_two (returns c 0)
