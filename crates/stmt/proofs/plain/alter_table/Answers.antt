-- `plain::alter_table` writes its entry, a step a call.
use Rattle.pen.specs.Laws.{◌▹◌}
use Rattle.grammar.specs.Grammar.{shape}
use Rattle.stmt.proofs.plain.alter_table.Goals as goal

pub returns : goal.returns
unfolding shape
returns c r =
    let at-alter-table-body = c in
    let at-run = at-alter-table-body in
    let at-word2 = at-run in
    let at-word = at-word2 in
    at-word.word-q.ensures _ _ r
    ▹ at-word2.word-q-2.ensures _ _ r
    ▹ at-run.run-q.ensures _ r
    ▹ at-alter-table-body.alter_table_body.ensures r
