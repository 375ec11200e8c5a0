-- `reader::eights_end` meets its contract. The loop's invariant: where the bytes end is the same from the start and from `i` on.
use Rattle.std.proofs.Common.{ℕ, Bool, ◌≡◌, ◌≤◌, ◌-◌, length, drop}
use Rattle.reading.specs.Number.{takes}
use Rattle.reader.specs.Places.{past}
use Rattle.reader.proofs.eights_end.Given as goal

abbrev pub invariant-loop-i : goal.invariant-loop-i
invariant-loop-i g l =
    (l.i ≤ length l.text)
    × ((p : ℕ → Bool) → ((b : ℕ) (r : Bool) → goal.S-post g l.sort b r → r ≡ p b)
    → past l.at (takes p (drop l.at l.text)) ≡ past l.i (takes p (drop l.i l.text)))

abbrev pub decreases-loop-i : goal.decreases-loop-i
decreases-loop-i g l = length l.text - l.i
