-- `reader::bytes_end` meets its contract. The loop's invariant: where the bytes end is the same from the start and from `i` on.
use Rattle.std.proofs.Common.{ℕ, Bool, ◌≡◌, drop}
use Rattle.reading.specs.Number.{takes}
use Rattle.reader.specs.Places.{past}
use Rattle.reader.proofs.bytes_end.Given as goal

abbrev pub invariant-loop-i : goal.invariant-loop-i
invariant-loop-i g l =
    (p : ℕ → Bool) → ((b : ℕ) (r : Bool) → goal.S-post g l.sort b r → r ≡ p b)
    → past l.at (takes p (drop l.at l.text)) ≡ past l.i (takes p (drop l.i l.text))
