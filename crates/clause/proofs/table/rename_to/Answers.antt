-- `table::rename_to` writes its entry, a step a call.
use Rattle.pen.specs.Laws.{◌▹◌}
use Rattle.grammar.specs.Grammar.{shape}
use Rattle.clause.proofs.table.rename_to.Goals as goal

pub returns : goal.returns
unfolding shape
returns c d r =
    let at-run = c in
    let at-word2 = at-run in
    let at-word = at-word2 in
    at-word.word-q.ensures _ d r
    ▹ at-word2.word-q-2.ensures _ d r
    ▹ at-run.run.ensures d r
