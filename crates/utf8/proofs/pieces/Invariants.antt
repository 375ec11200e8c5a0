-- `utf8::pieces` meets its contract. The loop's invariant: `i` is within the bytes, and those before it are plain; what is left falls with each turn.
-- Assumes nothing.
use Prim.Native.Nat.{◌≤◌, ◌-◌}
use mathlib.Core.Path.{◌≡◌}
use mathlib.Core.Bool.{true}
use lib.ListN.{length, take}
use Rattle.utf8.specs.Plain.{all_plain}
use Rattle.utf8.proofs.pieces.Given as goal

abbrev pub invariant-loop-i : goal.invariant-loop-i
invariant-loop-i g l = (l.i ≤ length l.s) × (all_plain (take l.i l.s) ≡ true)

abbrev pub decreases-loop-i : goal.decreases-loop-i
decreases-loop-i g l = length l.s - l.i
