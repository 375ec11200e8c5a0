-- `create::create_materialized_view` writes its entry, a step a call.
use Rattle.pen.specs.Laws.{◌▹◌}
use Rattle.grammar.specs.Grammar.{shape}
use Rattle.stmt.specs.Laws.{same_one}
use Rattle.stmt.proofs.create.create_materialized_view.Goals as goal

pub returns : goal.returns
unfolding shape
returns c r h =
    let at-view-body = c in
    let at-if-not-exists = at-view-body in
    let at-word3 = at-if-not-exists in
    let at-word2 = at-word3 in
    let at-word = at-word2 in
    at-word.word-q.ensures _ _ r
    ▹ at-word2.word-q-2.ensures _ _ r
    ▹ at-word3.word-q-3.ensures _ _ r
    ▹ at-if-not-exists.if_not_exists-q.ensures _ _ r _ h
    ▹ at-view-body.view_body.ensures r

pub shape_of-out : goal.shape_of-out
shape_of-out c = same_one (returns c)
