-- `constraint::primary_key` writes its entry, a step a call.
use Rattle.pen.specs.Laws.{◌▹◌, same}
use Rattle.grammar.specs.Grammar.{shape}
use Rattle.pen.specs.Flags.{bits, first_bit}
use mathlib.Core.Bool.{false}
use Rattle.clause.proofs.constraint.primary_key.Goals as goal

pub returns : goal.returns
unfolding shape
returns c d r h =
    let at-on-conflict = c in
    let at-word4 = at-on-conflict in
    let at-word-if = at-word4 in
    let at-comma = at-word-if in
    let at-word3 = at-comma in
    let at-word2 = at-word3 in
    let at-word = at-word2 in
    at-word.word-q.ensures _ d r
    ▹ at-word2.word-q-2.ensures _ d r
    ▹ (at-word3.word-q-3.ensures _ d r
    ▹ (at-comma.comma-q.ensures d r ▹ at-word-if.word_if-q.ensures _ d r _ h)
    ▹ at-word4.word-q-4.ensures _ d r)
    ▹ at-on-conflict.on_conflict.ensures d r

pub shape_of-out : goal.shape_of-out
shape_of-out c = same (returns c 0 (bits c.args.auto_increment false false) (first_bit _ false false))
