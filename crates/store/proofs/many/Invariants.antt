-- `store::many` meets its contract. The loop's invariant: the first i bytes are stored.
use Rattle.std.proofs.Common.{◌≡◌, ◌≤◌, ◌-◌, length, take}
use Rattle.std.proofs.lemmas.List.Edits.{sets}
use Rattle.store.proofs.many.Given as goal

abbrev pub invariant-loop-i : goal.invariant-loop-i
invariant-loop-i l = (l.i ≤ length l.v) × (l.out ≡ sets l.initial.out l.at (take l.i l.v))

abbrev pub decreases-loop-i : goal.decreases-loop-i
decreases-loop-i l = length l.v - l.i
