-- `parts::name` writes a TEXT as TK_ID.
use Rattle.grammar.specs.Slots.{allowed}
use borrow.Author.Tests.{ne_eqb}
use Rattle.pen.specs.Places.{not_placed, text_on}
use Rattle.parts.proofs.name.Goals as goal

pub returns-then-r-ne-TEXT : goal.returns-then-r-ne-TEXT
unfolding allowed
returns-then-r-ne-TEXT c d r =
    let at-pass = c in
    let at_read = at-pass in
    not_placed at_read.read-r.ensures (rw (ne_eqb _ _ c.if-r-ne-TEXT.true)) at-pass.pass-q.ensures

pub returns : goal.returns
returns c d r =
    let at-append = c in
    let at_part = at-append in
    let at-if1 = at_part in
    let at-pass = at-if1 in
    let at_read = at-pass in
    text_on at_read.read-r.ensures at-if1.if-r-ne-TEXT.false at-pass.pass-q.ensures at_part.part-value.ensures at-append.append.ensures
