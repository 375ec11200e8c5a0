-- `table::rename_column` writes its entry, a step a call.
use Rattle.pen.specs.Laws.{◌▹◌, same}
use Rattle.grammar.specs.Grammar.{shape}
use Rattle.record.specs.Laws.{nothing as blank}
use Rattle.clause.proofs.table.rename_column.Goals as goal

pub returns : goal.returns
unfolding shape
returns c d r =
    let at-run2 = c in
    let at-word3 = at-run2 in
    let at-run = at-word3 in
    let at-word2 = at-run in
    let at-word = at-word2 in
    at-word.word-q.ensures _ d r
    ▹ at-word2.word-q-2.ensures _ d r
    ▹ at-run.run-q.ensures d r
    ▹ at-word3.word-q-3.ensures _ d r
    ▹ at-run2.run.ensures d r

pub shape_of-out : goal.shape_of-out
shape_of-out c = same (returns c 0 blank)
