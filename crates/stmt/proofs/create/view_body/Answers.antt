-- `create::view_body`: each call is a step of its shape.
use Rattle.pen.specs.Laws.{◌▹◌}
use Rattle.stmt.proofs.create.view_body.Goals as goal

pub returns : goal.returns
returns c r =
    let at-select = c in
    let at-word = at-select in
    let at-columns = at-word in
    let at-run = at-columns in
    at-run.run-q.ensures _ r
    ▹ at-columns.columns-q.ensures _ r
    ▹ at-word.word-q.ensures _ _ r
    ▹ at-select.select.ensures r
