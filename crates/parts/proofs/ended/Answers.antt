-- `parts::ended` writes a RUN and its line's end.
use Rattle.record.specs.Laws as records
use Rattle.tokens.specs.Tokens.{means}
use Rattle.pen.specs.Laws.{◌▹◌}
use Rattle.parts.proofs.ended.Goals as goal

pub returns : goal.returns
unfolding means
returns c d v =
    let at_line = c in
    let at_run = at_line in
    (at_run.run-q.ensures d records.nothing ▹ at_line.line.ensures _ d records.nothing).puts v
