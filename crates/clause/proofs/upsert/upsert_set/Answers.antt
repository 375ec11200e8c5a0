-- `upsert::upsert_set` writes its entry, a step a call.
use Rattle.pen.specs.Laws.{◌▹◌, same}
use Rattle.grammar.specs.Grammar.{shape}
use Rattle.record.specs.Laws.{nothing as blank}
use Rattle.clause.proofs.upsert.upsert_set.Goals as goal

pub returns : goal.returns
unfolding shape
returns c d r =
    let at-clause = c in
    let at-comma = at-clause in
    let at-word3 = at-comma in
    let at-word2 = at-word3 in
    let at-word = at-word2 in
    at-word.word-q.ensures _ d r
    ▹ at-word2.word-q-2.ensures _ d r
    ▹ at-word3.word-q-3.ensures _ d r
    ▹ at-comma.comma-q.ensures d r
    ▹ at-clause.clause.ensures d r

pub shape_of-out : goal.shape_of-out
shape_of-out c = same (returns c 0 blank)
