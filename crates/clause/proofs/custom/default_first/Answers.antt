-- `custom::default_first` finds the index behind the operators, writes the default that is there, and then the operators.
use mathlib.Core.Path.{refl}
use Rattle.pen.specs.Laws.{in_one}
use Rattle.parts.specs.Laws.{said_clause}
use Rattle.clause.specs.Later.{later_written}
use Rattle.clause.proofs.custom.default_first.Goals as goal

pub returns : goal.returns
returns c r =
    let at-list2 = c in
    let at-said-clause = at-list2 in
    let at-list = at-said-clause in
    later_written (at-list.operators-behind.ensures r) (in_one (said_clause _ refl at-said-clause.said_clause-q.ensures)) (at-list2.operators-q.ensures r)
