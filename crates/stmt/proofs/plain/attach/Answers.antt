-- `plain::attach` writes its entry, a step a call.
use Rattle.pen.specs.Laws.{◌▹◌, same}
use Rattle.grammar.specs.Grammar.{shape}
use Rattle.record.specs.Laws.{nothing as blank}
use Rattle.stmt.proofs.plain.attach.Goals as goal

pub returns : goal.returns
unfolding shape
returns c d r =
    let at-clause = c in
    let at-run2 = at-clause in
    let at-word2 = at-run2 in
    let at-run = at-word2 in
    let at-word = at-run in
    at-word.word-q.ensures _ d r
    ▹ at-run.run-q.ensures d r
    ▹ at-word2.word-q-2.ensures _ d r
    ▹ at-run2.run-q-2.ensures d r
    ▹ at-clause.clause.ensures d r

pub shape_of-out : goal.shape_of-out
shape_of-out c = same (returns c 0 blank)
