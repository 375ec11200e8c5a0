-- `reader::long_end` meets its contract. The loop's invariant: where the bytes end is the same from the start and from `j` on.
use Rattle.std.proofs.Common.{ℕ, Bool, ◌≡◌, drop}
use Rattle.reading.specs.Number.{takes}
use Rattle.reader.specs.Places.{past}
use Rattle.reader.proofs.long_end.Given as goal

abbrev pub invariant-loop-j : goal.invariant-loop-j
invariant-loop-j g l =
    (p : ℕ → Bool) → ((b : ℕ) (r : Bool) → goal.S-post g l.sort b r → r ≡ p b)
    → past l.at (takes p (drop l.at l.text)) ≡ past l.j (takes p (drop l.j l.text))
