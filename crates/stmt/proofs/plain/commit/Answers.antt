-- `plain::commit` writes its entry, a step a call.
use Rattle.pen.specs.Laws.{◌▹◌}
use Rattle.grammar.specs.Grammar.{shape}
use Rattle.stmt.proofs.plain.commit.Goals as goal

pub returns : goal.returns
unfolding shape
returns c d r =
    let at-clause = c in
    let at-word = at-clause in
    at-word.word-q.ensures _ d r ▹ at-clause.clause.ensures d r
