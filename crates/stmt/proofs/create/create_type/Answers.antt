-- `create::create_type` writes its entry, a step a call.
use Rattle.pen.specs.Laws.{◌▹◌, in_one}
use Rattle.grammar.specs.Grammar.{shape}
use Rattle.stmt.specs.Laws.{same_one}
use Rattle.stmt.proofs.create.create_type.Goals as goal

pub returns : goal.returns
unfolding shape
returns c r h =
    let at-create-type-body = c in
    let at_name = at-create-type-body in
    let at-if-not-exists = at_name in
    let at-word2 = at-if-not-exists in
    let at-word = at-word2 in
    at-word.word-q.ensures _ _ r
    ▹ at-word2.word-q-2.ensures _ _ r
    ▹ at-if-not-exists.if_not_exists-q.ensures _ _ r _ h
    ▹ in_one (at_name.name-q.ensures _ r)
    ▹ at-create-type-body.create_type_body.ensures r

pub shape_of-out : goal.shape_of-out
shape_of-out c = same_one (returns c)
