-- `plain::rollback` writes its entry, a step a call.
use Rattle.pen.specs.Laws.{◌▹◌}
use Rattle.grammar.specs.Grammar.{shape}
use Rattle.stmt.proofs.plain.rollback.Goals as goal

pub returns : goal.returns
unfolding shape
returns c d r =
    let at-clause2 = c in
    let at-clause = at-clause2 in
    let at-word = at-clause in
    at-word.word-q.ensures _ d r
    ▹ at-clause.clause-q.ensures d r
    ▹ at-clause2.clause.ensures d r
