-- `constraint::unique` writes its entry, a step a call.
use Rattle.pen.specs.Laws.{◌▹◌}
use Rattle.grammar.specs.Grammar.{shape}
use Rattle.clause.proofs.constraint.unique.Goals as goal

pub returns : goal.returns
unfolding shape
returns c d r =
    let at-on-conflict = c in
    let at-in-parens = at-on-conflict in
    let at-word = at-in-parens in
    at-word.word-q.ensures _ d r
    ▹ at-in-parens.in_parens-q.ensures d r
    ▹ at-on-conflict.on_conflict.ensures d r
