-- `rows::delete` writes its entry, a step a call.
use Rattle.pen.specs.Laws.{◌▹◌, same}
use Rattle.pen.specs.Places.{optional}
use Rattle.grammar.specs.Grammar.{shape}
use Rattle.record.specs.Laws.{nothing as blank}
use Rattle.stmt.proofs.rows.delete.Goals as goal

pub returns : goal.returns
unfolding shape
returns c r =
    let at-word-list = c in
    let at-clause = at-word-list in
    let at-run2 = at-clause in
    let at-run = at-run2 in
    let at-word2 = at-run in
    let at-word = at-word2 in
    let at-with-clause = at-word in
    optional (at-with-clause.with_clause-q.ensures r)
    ▹ at-word.word-q.ensures _ _ r
    ▹ at-word2.word-q-2.ensures _ _ r
    ▹ at-run.run-q.ensures _ r
    ▹ optional (at-run2.run-q-2.ensures _ r)
    ▹ at-clause.clause-q.ensures _ r
    ▹ at-word-list.word_list.ensures _ r

pub shape_of-out : goal.shape_of-out
shape_of-out c = same (returns c blank)
