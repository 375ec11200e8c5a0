-- `drop::drop_type` writes its entry, a step a call.
use Rattle.pen.specs.Laws.{◌▹◌}
use Rattle.grammar.specs.Grammar.{shape}
use Rattle.stmt.proofs.drop.drop_type.Goals as goal

pub returns : goal.returns
unfolding shape
returns c d r h =
    let at_name = c in
    let at-if-exists = at_name in
    let at-word2 = at-if-exists in
    let at-word = at-word2 in
    at-word.word-q.ensures _ _ r
    ▹ at-word2.word-q-2.ensures _ _ r
    ▹ at-if-exists.if_exists-q.ensures _ _ r _ h
    ▹ at_name.name.ensures _ r
