-- `create::create_index` writes its entry, a step a call.
use Rattle.pen.specs.Laws.{◌▹◌}
use Rattle.grammar.specs.Grammar.{shape}
use Rattle.stmt.specs.Laws.{same_two}
use Rattle.stmt.proofs.create.create_index.Goals as goal

pub returns : goal.returns
unfolding shape
returns c r h g =
    let at-clause2 = c in
    let at-index-options = at-clause2 in
    let at-in-parens = at-index-options in
    let at-clause = at-in-parens in
    let at-run2 = at-clause in
    let at-word3 = at-run2 in
    let at-run = at-word3 in
    let at-if-not-exists = at-run in
    let at-word2 = at-if-not-exists in
    let at-word-if = at-word2 in
    let at-word = at-word-if in
    at-word.word-q.ensures _ _ r
    ▹ at-word-if.word_if-q.ensures _ _ r _ h
    ▹ at-word2.word-q-2.ensures _ _ r
    ▹ at-if-not-exists.if_not_exists-q.ensures _ _ r _ g
    ▹ at-run.run-q.ensures _ r
    ▹ at-word3.word-q-3.ensures _ _ r
    ▹ at-run2.run-q-2.ensures _ r
    ▹ at-clause.clause-q.ensures _ r
    ▹ at-in-parens.in_parens-q.ensures _ r
    ▹ at-index-options.index_options-q.ensures r
    ▹ at-clause2.clause.ensures _ r

pub shape_of-out : goal.shape_of-out
shape_of-out c = same_two (returns c)
