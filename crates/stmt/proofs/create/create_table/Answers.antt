-- `create::create_table` writes its entry, a step a call.
use Rattle.pen.specs.Laws.{◌▹◌, in_one}
use Rattle.grammar.specs.Grammar.{shape}
use Rattle.stmt.specs.Laws.{same_two}
use Rattle.stmt.proofs.create.create_table.Goals as goal

pub returns : goal.returns
unfolding shape
returns c r h g =
    let at-create-table-body = c in
    let at-run = at-create-table-body in
    let at-if-not-exists = at-run in
    let at-word2 = at-if-not-exists in
    let at-word-if = at-word2 in
    let at-word = at-word-if in
    at-word.word-q.ensures _ _ r
    ▹ at-word-if.word_if-q.ensures _ _ r _ h
    ▹ at-word2.word-q-2.ensures _ _ r
    ▹ at-if-not-exists.if_not_exists-q.ensures _ _ r _ g
    ▹ in_one (at-run.run-q.ensures _ r)
    ▹ at-create-table-body.create_table_body.ensures r

pub shape_of-out : goal.shape_of-out
shape_of-out c = same_two (returns c)
