-- `create::number_clause` passes over NONE.
use Rattle.pen.specs.Laws.{◌▹◌, a_said}
use Rattle.pen.specs.Places.{given_none, given_some}
use Rattle.stmt.proofs.create.number_clause.Goals as goal

pub returns-then-r-eq-NONE : goal.returns-then-r-eq-NONE
returns-then-r-eq-NONE c v h d r =
    let at-if1 = c in
    let at_read = at-if1 in
    given_none at_read.read-r.ensures at-if1.if-r-eq-NONE.true c.pass.ensures

pub returns : goal.returns
returns c v h d r =
    let at-number = c in
    let at-said = at-number in
    let at-if1 = at-said in
    let at_read = at-if1 in
    given_some at_read.read-r.ensures at-if1.if-r-eq-NONE.false (a_said v h at-said.said-q.ensures ▹ at-number.number.ensures _ d r)
