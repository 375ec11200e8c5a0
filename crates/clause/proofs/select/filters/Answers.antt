-- `select::filters`: each call is a step of its shape.
use Rattle.pen.specs.Laws.{◌▹◌}
use Rattle.pen.specs.Places.{optional}
use Rattle.clause.proofs.select.filters.Goals as goal

pub returns : goal.returns
returns c d r =
    let at-word-list = c in
    let at-run = at-word-list in
    let at-clause = at-run in
    at-clause.clause-q.ensures d r
    ▹ optional (at-run.run-q.ensures d r)
    ▹ at-word-list.word_list.ensures d r
