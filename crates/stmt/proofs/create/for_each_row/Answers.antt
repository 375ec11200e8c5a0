-- `create::for_each_row` writes its words under the flag.
use Rattle.pen.specs.Laws.{◌▹◌}
use Rattle.pen.specs.Places.{under, not_under}
use Rattle.stmt.proofs.create.for_each_row.Goals as goal

pub returns-then-on : goal.returns-then-on
returns-then-on c e d r bit h =
    let at-word3 = c in
    let at-word2 = at-word3 in
    let at-word = at-word2 in
    let at-if1 = at-word in
    under h at-if1.if-on.true (at-word.word-q.ensures e d r
    ▹ at-word2.word-q-then-on.ensures e d r
    ▹ at-word3.word.ensures e d r)

pub returns : goal.returns
returns c e d r bit h = not_under h c.if-on.false
