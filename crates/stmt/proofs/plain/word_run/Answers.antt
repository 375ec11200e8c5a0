-- `plain::word_run`: each call is a step of its shape.
use Rattle.pen.specs.Laws.{◌▹◌}
use Rattle.stmt.proofs.plain.word_run.Goals as goal

pub returns : goal.returns
returns c d r =
    let at-run = c in
    let at-word = at-run in
    at-word.word-q.ensures _ d r ▹ at-run.run.ensures d r
