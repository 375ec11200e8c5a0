-- `create::trigger_body`: each call is a step of its shape.
use Rattle.pen.specs.Laws.{◌▹◌}
use Rattle.stmt.proofs.create.trigger_body.Goals as goal

pub returns : goal.returns
returns c d r =
    let at-word = c in
    let at-lines = at-word in
    let at-line = at-lines in
    let at-clause = at-line in
    at-clause.clause-q.ensures d r
    ▹ at-line.line-q.ensures _ d r
    ▹ at-lines.lines-q.ensures d r
    ▹ at-word.word.ensures _ d r
