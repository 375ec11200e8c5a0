-- `parts::in_parens`: each call is a step of its shape.
use Rattle.pen.specs.Laws.{◌▹◌}
use Rattle.parts.proofs.in_parens.Goals as goal

pub returns : goal.returns
returns c d r =
    let at-word2 = c in
    let at-comma = at-word2 in
    let at-word = at-comma in
    at-word.word-q.ensures _ d r ▹ at-comma.comma-q.ensures d r ▹ at-word2.word.ensures _ d r
