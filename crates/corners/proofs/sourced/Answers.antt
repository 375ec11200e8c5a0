-- `corners::sourced` writes the source, and a newline behind dashes.
use Rattle.corners.specs.Laws.{no_dashes, with_dashes}
use Rattle.corners.proofs.sourced.Goals as goal

pub returns-then-dashes : goal.returns-then-dashes
returns-then-dashes c =
    let at-append2 = c in
    let at-if1 = at-append2 in
    let at-dashes = at-if1 in
    let at-append = at-dashes in
    with_dashes _ at-dashes.dashes.ensures at-if1.if-dashes.true at-append.append-q.ensures at-append2.append.ensures

pub returns : goal.returns
returns c =
    let at-dashes = c in
    let at-append = at-dashes in
    no_dashes _ at-dashes.dashes.ensures c.if-dashes.false at-append.append-q.ensures
