-- `white::split` meets its contract. The loop's invariant: the parts passed are counted, no White_Space character stands at `at`, and the parts of what is left are the text's others.
use Prim.Native.Nat.{◌≤◌, ◌-◌}
use mathlib.Core.Path.{◌≡◌}
use lib.ListN.{length, drop}
use Rattle.white.specs.White.{white_length}
use Rattle.white.proofs.Count.{Passed}
use Rattle.white.proofs.split.Given as goal

abbrev pub invariant-loop-at : goal.invariant-loop-at
invariant-loop-at l = (l.at ≤ length l.s) × (white_length (drop l.at l.s) ≡ 0) × Passed l.s l.p l.at

abbrev pub decreases-loop-at : goal.decreases-loop-at
decreases-loop-at l = length l.s - l.at
