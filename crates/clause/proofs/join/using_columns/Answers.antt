-- `join::using_columns` writes its entry, a step a call.
use Rattle.pen.specs.Laws.{◌▹◌}
use Rattle.grammar.specs.Grammar.{shape}
use Rattle.clause.proofs.join.using_columns.Goals as goal

pub returns : goal.returns
unfolding shape
returns c d r =
    let at-in-parens = c in
    let at-word = at-in-parens in
    at-word.word-q.ensures _ d r ▹ at-in-parens.in_parens.ensures d r
