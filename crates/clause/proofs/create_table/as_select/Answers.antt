-- `create_table::as_select` writes its entry, a step a call.
use Rattle.pen.specs.Laws.{◌▹◌}
use Rattle.grammar.specs.Grammar.{shape}
use Rattle.clause.proofs.create_table.as_select.Goals as goal

pub returns : goal.returns
unfolding shape
returns c r =
    let at-select = c in
    let at-word = at-select in
    at-word.word-q.ensures _ _ r ▹ at-select.select.ensures r
