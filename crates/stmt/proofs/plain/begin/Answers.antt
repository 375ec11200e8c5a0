-- `plain::begin` writes its entry, a step a call.
use Rattle.pen.specs.Laws.{◌▹◌}
use Rattle.pen.specs.Places.{optional}
use Rattle.grammar.specs.Grammar.{shape}
use Rattle.stmt.proofs.plain.begin.Goals as goal

pub returns : goal.returns
unfolding shape
returns c d r =
    let at-clause = c in
    let at-run = at-clause in
    let at-word = at-run in
    at-word.word-q.ensures _ d r
    ▹ optional (at-run.run-q.ensures d r)
    ▹ at-clause.clause.ensures d r
