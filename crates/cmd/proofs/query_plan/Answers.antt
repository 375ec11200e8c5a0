-- `query_plan`: each call is a step of its shape.
use Rattle.pen.specs.Laws.{◌▹◌}
use Rattle.cmd.proofs.query_plan.Goals as goal

pub returns : goal.returns
returns c e d r =
    let at-word3 = c in
    let at-word2 = at-word3 in
    let at-word = at-word2 in
    at-word.word-q.ensures e d r ▹ at-word2.word-q-2.ensures e d r ▹ at-word3.word.ensures e d r
