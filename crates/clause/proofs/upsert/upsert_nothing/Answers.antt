-- `upsert::upsert_nothing` writes its entry, a step a call.
use Rattle.pen.specs.Laws.{◌▹◌}
use Rattle.grammar.specs.Grammar.{shape}
use Rattle.clause.proofs.upsert.upsert_nothing.Goals as goal

pub returns : goal.returns
unfolding shape
returns c e d r =
    let at-word2 = c in
    let at-word = at-word2 in
    at-word.word-q.ensures e d r ▹ at-word2.word.ensures e d r
