-- `rows::insert` writes its entry, a step a call.
use Rattle.pen.specs.Laws.{◌▹◌, same}
use Rattle.pen.specs.Places.{optional}
use Rattle.grammar.specs.Grammar.{shape}
use Rattle.record.specs.Laws.{nothing as blank}
use Rattle.stmt.proofs.rows.insert.Goals as goal

pub returns : goal.returns
unfolding shape
returns c r =
    let at-word-list = c in
    let at-run2 = at-word-list in
    let at-columns = at-run2 in
    let at-run = at-columns in
    let at-word = at-run in
    let at-insert-or = at-word in
    let at-with-clause = at-insert-or in
    optional (at-with-clause.with_clause-q.ensures r)
    ▹ at-insert-or.insert_or-q.ensures _ r
    ▹ at-word.word-q.ensures _ _ r
    ▹ at-run.run-q.ensures _ r
    ▹ at-columns.columns-q.ensures _ r
    ▹ at-run2.run-q-2.ensures _ r
    ▹ at-word-list.word_list.ensures _ r

pub shape_of-out : goal.shape_of-out
shape_of-out c = same (returns c blank)
