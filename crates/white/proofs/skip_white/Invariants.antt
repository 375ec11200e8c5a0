-- `white::skip_white` meets its contract. The loop's invariant: the parts of what is left are still the same, and `n` is the length of the White_Space character that stands at `i`.
use Prim.Native.Nat.{◌≤◌, ◌-◌}
use mathlib.Core.Path.{◌≡◌}
use lib.ListN.{length, drop}
use Rattle.white.specs.White.{white_length}
use Rattle.white.specs.Steps.{parts_from}
use Rattle.white.proofs.skip_white.Given as goal

abbrev pub invariant-loop-n : goal.invariant-loop-n
invariant-loop-n l = (l.at ≤ l.i) × (l.i ≤ length l.s) × (l.n ≡ white_length (drop l.i l.s)) × (parts_from l.s l.i 0 ≡ parts_from l.s l.at 0)

abbrev pub decreases-loop-n : goal.decreases-loop-n
decreases-loop-n l = length l.s - l.i
