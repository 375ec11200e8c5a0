-- `corners::quoted` writes a TEXT between quotes, as its edition has it.
use Rattle.pen.specs.Laws.{appended}
use Rattle.corners.specs.Laws.{no_quote_lem, a_quote}
use Rattle.corners.proofs.quoted.Goals as goal

pub returns-then-r-ne-TEXT : goal.returns-then-r-ne-TEXT
returns-then-r-ne-TEXT c d r =
    let at-pass = c in
    let at_read = at-pass in
    let at-args = at_read in
    no_quote_lem at-args.args.from.now.text.now at_read.read-r.ensures at-pass.pass-q.ensures c.if-r-ne-TEXT.true

pub returns : goal.returns
returns c d r =
    let at-quoted = c in
    let at_of = at-quoted in
    let at_part = at_of in
    let at-if1 = at_part in
    let at-pass = at-if1 in
    let at_read = at-pass in
    let at-args = at_read in
    a_quote at-args.args.from.now.text.now at_read.read-r.ensures at-pass.pass-q.ensures at-if1.if-r-ne-TEXT.false at_part.part-value.ensures (appended at_of.of.ensures at-quoted.in_edition-s.ensures)
