-- `types::size` passes over NONE.
use Rattle.pen.specs.Laws.{◌▹◌}
use Rattle.pen.specs.Places.{optional, given_none, given_some}
use Rattle.clause.proofs.types.size.Goals as goal

pub returns-then-r-eq-NONE : goal.returns-then-r-eq-NONE
returns-then-r-eq-NONE c d r =
    let at-if1 = c in
    let at_read = at-if1 in
    given_none at_read.read-r.ensures at-if1.if-r-eq-NONE.true c.pass.ensures

pub returns : goal.returns
returns c d r =
    let at-word2 = c in
    let at-run = at-word2 in
    let at-word = at-run in
    let at-if1 = at-word in
    let at_read = at-if1 in
    given_some at_read.read-r.ensures at-if1.if-r-eq-NONE.false (at-word.word-q.ensures _ d r
    ▹ optional (at-run.run-q.ensures d r)
    ▹ at-word2.word.ensures _ d r)
