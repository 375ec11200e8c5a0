-- `corners::rowid_written` meets its contract: a TEXT of two parts is written.
use Rattle.corners.specs.Laws.{no_rowid, a_rowid_written}
use Rattle.corners.proofs.rowid_written.Goals as goal

pub returns-then-r-ne-TEXT : goal.returns-then-r-ne-TEXT
returns-then-r-ne-TEXT c =
    let at-args = c in
    no_rowid at-args.args.r at-args.args.text.now c.if-r-ne-TEXT.true

pub returns : goal.returns
returns c =
    let at_split = c in
    let at_part = at_split in
    let at-if1 = at_part in
    let at-args = at-if1 in
    a_rowid_written at-args.args.r at-args.args.text.now at-if1.if-r-ne-TEXT.false at_part.part-value.ensures at_split.split-parts.ensures
