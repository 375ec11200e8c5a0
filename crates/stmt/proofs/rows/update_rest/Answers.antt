-- `rows::update_rest`: each call is a step of its shape.
use Rattle.pen.specs.Laws.{◌▹◌, same}
use Rattle.record.specs.Laws.{nothing as blank}
use Rattle.stmt.proofs.rows.update_rest.Goals as goal

pub returns : goal.returns
returns c r =
    let at-word-list = c in
    let at-clause = at-word-list in
    let at-from-given = at-clause in
    let at-comma = at-from-given in
    let at-word = at-comma in
    at-word.word-q.ensures _ _ r
    ▹ at-comma.comma-q.ensures _ r
    ▹ at-from-given.from_given-q.ensures r
    ▹ at-clause.clause-q.ensures _ r
    ▹ at-word-list.word_list.ensures _ r

pub shape_of-out : goal.shape_of-out
shape_of-out c = same (returns c blank)
