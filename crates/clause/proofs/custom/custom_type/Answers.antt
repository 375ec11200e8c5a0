-- `custom::custom_type` writes its entry, a step a call.
use Rattle.pen.specs.Laws.{◌▹◌, a_said, same, in_one}
use Rattle.parts.specs.Laws.{said_clause}
use Rattle.grammar.specs.Grammar.{shape}
use mathlib.Core.Path.{refl}
use Rattle.record.specs.Laws.{nothing as blank}
use Rattle.clause.proofs.custom.custom_type.Goals as goal

pub returns : goal.returns
unfolding shape
returns c r =
    let at-default-first = c in
    let at-said-clause2 = at-default-first in
    let at-said-clause = at-said-clause2 in
    let at_name = at-said-clause in
    let at-said = at_name in
    let at-params = at-said in
    in_one (at-params.params-q.ensures r)
    ▹ a_said _ refl at-said.said-q.ensures
    ▹ in_one (at_name.name-q.ensures _ r)
    ▹ in_one (said_clause _ refl at-said-clause.said_clause-q.ensures)
    ▹ in_one (said_clause _ refl at-said-clause2.said_clause-q-2.ensures)
    ▹ at-default-first.default_first.ensures r

pub shape_of-out : goal.shape_of-out
shape_of-out c = same (returns c blank)
