-- `join::on` writes its entry, a step a call.
use Rattle.pen.specs.Laws.{◌▹◌}
use Rattle.grammar.specs.Grammar.{shape}
use Rattle.clause.proofs.join.on.Goals as goal

pub returns : goal.returns
unfolding shape
returns c d r =
    let at-run = c in
    let at-word = at-run in
    at-word.word-q.ensures _ d r ▹ at-run.run.ensures d r
