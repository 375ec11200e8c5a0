-- `parts::columns` passes over an empty LIST.
use Rattle.pen.specs.Places.{filled_none, filled_some}
use Rattle.parts.proofs.columns.Goals as goal

pub returns-then-r-eq0 : goal.returns-then-r-eq0
returns-then-r-eq0 c d r =
    let at-if1 = c in
    let at_read = at-if1 in
    filled_none at_read.read-r.ensures at-if1.if-r-eq0.true c.pass.ensures

pub returns : goal.returns
returns c d r =
    let at-in-parens = c in
    let at-if1 = at-in-parens in
    let at_read = at-if1 in
    filled_some at_read.read-r.ensures at-if1.if-r-eq0.false (at-in-parens.in_parens.ensures d r)
