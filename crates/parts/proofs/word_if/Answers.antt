-- `parts::word_if` writes its word under the flag.
use Rattle.pen.specs.Places.{under, not_under}
use Rattle.parts.proofs.word_if.Goals as goal

pub returns-then-on : goal.returns-then-on
returns-then-on c e d r bit h =
    let at-word = c in
    let at-if1 = at-word in
    under h at-if1.if-on.true (at-word.word.ensures e d r)

pub returns : goal.returns
returns c e d r bit h = not_under h c.if-on.false
