-- `plain::optimize` writes its entry, a step a call.
use Rattle.pen.specs.Laws.{◌▹◌}
use Rattle.pen.specs.Places.{optional}
use Rattle.grammar.specs.Grammar.{shape}
use Rattle.stmt.proofs.plain.optimize.Goals as goal

pub returns : goal.returns
unfolding shape
returns c d r =
    let at-run = c in
    let at-word2 = at-run in
    let at-word = at-word2 in
    at-word.word-q.ensures _ d r
    ▹ at-word2.word-q-2.ensures _ d r
    ▹ optional (at-run.run.ensures d r)
