-- `corners::rowid` writes WITHOUT and the second of two parts.
use Rattle.grammar.specs.Kind.{TEXT}
use Rattle.tokens.specs.Tokens.{means}
use Rattle.parts.specs.Laws.{of_other}
use Rattle.pen.specs.Laws.{word_said}
use Rattle.corners.specs.Laws.{a_rowid, not_two, two_parts, no_second}
use Rattle.corners.proofs.rowid.Goals as goal

pub returns-then-r-ne-TEXT : goal.returns-then-r-ne-TEXT
unfolding means
returns-then-r-ne-TEXT c d r =
    let at-pass = c in
    let at_read = at-pass in
    let at-args = at_read in
    record { puts = of_other at-args.args.from.now.text.now TEXT at_read.read-r.ensures at-pass.pass-q.ensures _ c.if-r-ne-TEXT.true }

pub returns-then-parts-ne-TWO_PARTS : goal.returns-then-parts-ne-TWO_PARTS
returns-then-parts-ne-TWO_PARTS c d r =
    let at_split = c in
    let at_part = at_split in
    let at-if1 = at_part in
    let at-pass = at-if1 in
    let at_read = at-pass in
    let at-args = at_read in
    a_rowid at-args.args.from.now.text.now at_read.read-r.ensures at-pass.pass-q.ensures at-if1.if-r-ne-TEXT.false at_part.part-value.ensures (not_two _ _ at_split.split-parts.ensures c.if-parts-ne-TWO_PARTS.true)

pub returns-in-Some : goal.returns-in-Some
returns-in-Some c d r =
    let at-append = c in
    let at-word = at-append in
    let at-part2 = at-word in
    let at_match = at-part2 in
    let at-if2 = at_match in
    let at_split = at-if2 in
    let at_part = at_split in
    let at-if1 = at_part in
    let at-pass = at-if1 in
    let at_read = at-pass in
    let at-args = at_read in
    a_rowid at-args.args.from.now.text.now at_read.read-r.ensures at-pass.pass-q.ensures at-if1.if-r-ne-TEXT.false at_part.part-value.ensures (two_parts _ _ _ at_split.split-parts.ensures at-if2.if-parts-ne-TWO_PARTS.false at_match.in-Some.is at-part2.part-second.ensures (word_said at-word.word-q.ensures) at-append.append.ensures)

pub returns-in-None : goal.returns-in-None
returns-in-None c d r =
    let at-if2 = c in
    let at_split = at-if2 in
    let at_part = at_split in
    let at-if1 = at_part in
    let at-pass = at-if1 in
    let at_read = at-pass in
    let at-args = at_read in
    a_rowid at-args.args.from.now.text.now at_read.read-r.ensures at-pass.pass-q.ensures at-if1.if-r-ne-TEXT.false at_part.part-value.ensures (no_second _ _ at_split.split-parts.ensures at-if2.if-parts-ne-TWO_PARTS.false c.in-None.is)
