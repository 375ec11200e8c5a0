-- `plain::pragma` writes its entry, a step a call.
use Rattle.pen.specs.Laws.{◌▹◌}
use Rattle.pen.specs.Places.{optional}
use Rattle.grammar.specs.Grammar.{shape}
use Rattle.stmt.proofs.plain.pragma.Goals as goal

pub returns : goal.returns
unfolding shape
returns c d r =
    let at-run2 = c in
    let at-run = at-run2 in
    let at-word = at-run in
    at-word.word-q.ensures _ d r
    ▹ at-run.run-q.ensures d r
    ▹ optional (at-run2.run.ensures d r)
