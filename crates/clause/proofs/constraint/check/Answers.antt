-- `constraint::check` writes its entry, a step a call.
use Rattle.pen.specs.Laws.{◌▹◌}
use Rattle.grammar.specs.Grammar.{shape}
use Rattle.clause.proofs.constraint.check.Goals as goal

pub returns : goal.returns
unfolding shape
returns c d r =
    let at-word3 = c in
    let at_source = at-word3 in
    let at-word2 = at_source in
    let at-word = at-word2 in
    at-word.word-q.ensures _ d r
    ▹ at-word2.word-q-2.ensures _ d r
    ▹ at_source.source-q.ensures d r
    ▹ at-word3.word.ensures _ d r
