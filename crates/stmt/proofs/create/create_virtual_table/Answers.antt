-- `create::create_virtual_table` writes its entry, a step a call.
use Rattle.pen.specs.Laws.{◌▹◌}
use Rattle.grammar.specs.Grammar.{shape}
use Rattle.stmt.specs.Laws.{same_one}
use Rattle.stmt.proofs.create.create_virtual_table.Goals as goal

pub returns : goal.returns
unfolding shape
returns c d r h =
    let at-in-parens = c in
    let at-run2 = at-in-parens in
    let at-word4 = at-run2 in
    let at-run = at-word4 in
    let at-if-not-exists = at-run in
    let at-word3 = at-if-not-exists in
    let at-word2 = at-word3 in
    let at-word = at-word2 in
    at-word.word-q.ensures _ _ r
    ▹ at-word2.word-q-2.ensures _ _ r
    ▹ at-word3.word-q-3.ensures _ _ r
    ▹ at-if-not-exists.if_not_exists-q.ensures _ _ r _ h
    ▹ at-run.run-q.ensures _ r
    ▹ at-word4.word-q-4.ensures _ _ r
    ▹ at-run2.run-q-2.ensures _ r
    ▹ at-in-parens.in_parens.ensures _ r

pub shape_of-out : goal.shape_of-out
shape_of-out c = same_one (returns c 0)
