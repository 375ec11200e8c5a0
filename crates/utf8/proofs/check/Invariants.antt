-- `utf8::check` meets its contract. The loop's invariant: `i` is within the bytes, and those before it are a text; what is left falls with each turn.
-- It begins with plain bytes. A turn finds how far the text goes on, or that no character is there, and the longest text ends at `i` (`Turn`);
-- what is then said of the bytes to the end is `broken_encoded`. Assumes nothing.
use Prim.Native.Nat.{◌≤◌, ◌-◌}
use lib.ListN.{length, take}
use Rattle.utf8.specs.Rfc3629.{Text}
use Rattle.utf8.proofs.check.Given as goal

abbrev pub invariant-loop-i : goal.invariant-loop-i
invariant-loop-i l = (l.i ≤ length l.s) × Text (take l.i l.s)

abbrev pub decreases-loop-i : goal.decreases-loop-i
decreases-loop-i l = length l.s - l.i
