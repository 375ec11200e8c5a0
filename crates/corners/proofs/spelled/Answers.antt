-- `corners::spelled` writes the bytes that spell the number.
use mir.Syntax.{w64}
use mir.ValLaws.{to_z-of_z}
use Rattle.corners.specs.Laws.{spelled_part}
use Rattle.corners.proofs.spelled.Goals as goal

pub returns : goal.returns
returns c =
    let n = c.args.n in
    rw (← spelled_part n _ (rw (to_z-of_z w64 n c.ranges.n) at c.spell-number.ensures), ← c.text.ensures) c.append.ensures
