-- `table::alter_column` writes its entry, a step a call.
use Rattle.pen.specs.Laws.{◌▹◌, same}
use Rattle.grammar.specs.Grammar.{shape}
use Rattle.record.specs.Laws.{nothing as blank}
use Rattle.clause.proofs.table.alter_column.Goals as goal

pub returns : goal.returns
unfolding shape
returns c r =
    let at-column-definition = c in
    let at-word3 = at-column-definition in
    let at-run = at-word3 in
    let at-word2 = at-run in
    let at-word = at-word2 in
    at-word.word-q.ensures _ _ r
    ▹ at-word2.word-q-2.ensures _ _ r
    ▹ at-run.run-q.ensures _ r
    ▹ at-word3.word-q-3.ensures _ _ r
    ▹ at-column-definition.column_definition.ensures r

pub shape_of-out : goal.shape_of-out
shape_of-out c = same (returns c blank)
