-- `corners::dashes` looks at each two bytes: whether the rest has dashes is whether the text has.
use mathlib.Core.Path.{◌≡◌}
use Prim.Native.Nat.{◌≤◌, ◌-◌}
use lib.ListN.{drop}
use Rattle.tokens.specs.Corners.{dashes}
use Rattle.corners.proofs.dashes.Given as goal

abbrev pub invariant-loop-i : goal.invariant-loop-i
invariant-loop-i l = (1 ≤ l.i) × (dashes (drop (l.i - 1) l.text) ≡ dashes l.text)

abbrev pub decreases-loop-i : goal.decreases-loop-i
decreases-loop-i l = l.n - l.i
