-- `utf8::ones` meets its contract: the leading zeros of a byte's complement are the ones at its top, as a test at each of the 256 bytes
-- shows, which antt computes. Assumes nothing.
use Prim.Native.Nat.{ℕ, ◌-◌}
use mathlib.Core.Path.{refl}
use mathlib.Core.Bool.{Bool}
use lib.Count.{count_leading_zeros}
use lib.Dec.{eqb}
use borrow.Author.Tests.{eqb-true}
use Rattle.utf8.specs.Scan.{ones}
use Rattle.laws.specs.Below.{at}
use Rattle.utf8.proofs.ones.Goals as goal

abbrev right : ℕ → Bool
right b = eqb (count_leading_zeros 8 (255 - b)) (ones b)

pub returns : goal.returns
unfolding count_leading_zeros ones
returns c = let b = c.args.b in eqb-true (count_leading_zeros 8 (255 - b)) (ones b) (at right 256 refl b c.ranges.b.fits)
