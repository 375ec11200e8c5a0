-- `create::create_trigger` writes its entry, a step a call.
use Rattle.pen.specs.Laws.{◌▹◌}
use Rattle.pen.specs.Places.{optional}
use Rattle.grammar.specs.Grammar.{shape}
use Rattle.stmt.specs.Laws.{same_three}
use Rattle.stmt.proofs.create.create_trigger.Goals as goal

pub returns : goal.returns
unfolding shape
returns c d r h g k =
    let at-trigger-body = c in
    let at-for-each-row = at-trigger-body in
    let at-run4 = at-for-each-row in
    let at-word3 = at-run4 in
    let at-run3 = at-word3 in
    let at-run2 = at-run3 in
    let at-run = at-run2 in
    let at-if-not-exists = at-run in
    let at-word2 = at-if-not-exists in
    let at-word-if = at-word2 in
    let at-word = at-word-if in
    at-word.word-q.ensures _ _ r
    ▹ at-word-if.word_if-q.ensures _ _ r _ h
    ▹ at-word2.word-q-2.ensures _ _ r
    ▹ at-if-not-exists.if_not_exists-q.ensures _ _ r _ g
    ▹ at-run.run-q.ensures _ r
    ▹ optional (at-run2.run-q-2.ensures _ r)
    ▹ at-run3.run-q-3.ensures _ r
    ▹ at-word3.word-q-3.ensures _ _ r
    ▹ at-run4.run-q-4.ensures _ r
    ▹ at-for-each-row.for_each_row-q.ensures _ _ r _ k
    ▹ at-trigger-body.trigger_body.ensures _ r

pub shape_of-out : goal.shape_of-out
shape_of-out c = same_three (returns c 0)
