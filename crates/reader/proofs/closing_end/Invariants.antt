-- `reader::closing_end` meets its contract. The loop's invariant: where the quotation ends is the same from the start and from `i` on.
use Prim.Native.Nat.{◌≤◌, ◌-◌}
use mathlib.Core.Path.{◌≡◌}
use lib.ListN.{length, drop}
use Rattle.reading.specs.Reading.{closing}
use Rattle.reader.specs.Places.{past}
use Rattle.reader.proofs.closing_end.Given as goal

abbrev pub invariant-loop-i : goal.invariant-loop-i
invariant-loop-i l = (l.i ≤ length l.text) × (past l.at (closing l.quote (drop l.at l.text)) ≡ past l.i (closing l.quote (drop l.i l.text)))

abbrev pub decreases-loop-i : goal.decreases-loop-i
decreases-loop-i l = length l.text - l.i
