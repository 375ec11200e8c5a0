-- `table::add_column` writes its entry, a step a call.
use Rattle.pen.specs.Laws.{◌▹◌}
use Rattle.grammar.specs.Grammar.{shape}
use Rattle.clause.proofs.table.add_column.Goals as goal

pub returns : goal.returns
unfolding shape
returns c r =
    let at-column-definition = c in
    let at-word2 = at-column-definition in
    let at-word = at-word2 in
    at-word.word-q.ensures _ _ r
    ▹ at-word2.word-q-2.ensures _ _ r
    ▹ at-column-definition.column_definition.ensures r
