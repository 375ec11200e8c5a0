-- `drop::drop_named`: each call is a step of its shape.
use Rattle.pen.specs.Laws.{◌▹◌}
use Rattle.stmt.proofs.drop.drop_named.Goals as goal

pub returns : goal.returns
returns c d r h =
    let at-run = c in
    let at-if-exists = at-run in
    let at-word2 = at-if-exists in
    let at-word = at-word2 in
    at-word.word-q.ensures _ _ r
    ▹ at-word2.word-q-2.ensures _ _ r
    ▹ at-if-exists.if_exists-q.ensures _ _ r _ h
    ▹ at-run.run.ensures _ r
