-- `constraint::foreign_key` writes its entry, a step a call.
use Rattle.pen.specs.Laws.{◌▹◌, same}
use Rattle.pen.specs.Places.{optional}
use Rattle.grammar.specs.Grammar.{shape}
use Rattle.record.specs.Laws.{nothing as blank}
use Rattle.clause.proofs.constraint.foreign_key.Goals as goal

pub returns : goal.returns
unfolding shape
returns c r =
    let at-run = c in
    let at-foreign-key-clause = at-run in
    let at-word3 = at-foreign-key-clause in
    let at-in-parens = at-word3 in
    let at-word2 = at-in-parens in
    let at-word = at-word2 in
    at-word.word-q.ensures _ _ r
    ▹ at-word2.word-q-2.ensures _ _ r
    ▹ at-in-parens.in_parens-q.ensures _ r
    ▹ at-word3.word-q-3.ensures _ _ r
    ▹ at-foreign-key-clause.foreign_key_clause-q.ensures r
    ▹ optional (at-run.run.ensures _ r)

pub shape_of-out : goal.shape_of-out
shape_of-out c = same (returns c blank)
