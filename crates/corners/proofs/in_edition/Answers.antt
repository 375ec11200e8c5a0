-- `corners::in_edition` meets its contract: in SQLite's edition the quotes inside are doubled, and in the crate's they are not.
use Rattle.corners.specs.Laws.{inner_doubled, inner_single}
use Rattle.corners.proofs.in_edition.Goals as goal

pub returns-then-sqlite : goal.returns-then-sqlite
returns-then-sqlite c =
    let at-doubled = c in
    let at-if1 = at-doubled in
    rw (inner_doubled _ _ _ at-if1.sqlite.ensures at-if1.if-sqlite.true) at-doubled.doubled.ensures

pub returns : goal.returns
returns c =
    let at-quoted = c in
    let at-if1 = at-quoted in
    rw (inner_single _ _ _ at-if1.sqlite.ensures at-if1.if-sqlite.false) at-quoted.quoted.ensures
