-- `select::list_in_parens`: each call is a step of its shape.
use Rattle.pen.specs.Laws.{◌▹◌}
use Rattle.clause.proofs.select.list_in_parens.Goals as goal

pub returns : goal.returns
returns c r =
    let at-word2 = c in
    let at-list = at-word2 in
    let at-word = at-list in
    at-word.word-q.ensures _ _ r
    ▹ at-list.list-q.ensures r
    ▹ at-word2.word.ensures _ _ r
