-- `reader::through_end` meets its contract. The loop's invariant: where the blob ends is the same from the start and from `i` on.
use mathlib.Core.Path.{◌≡◌}
use lib.ListN.{drop}
use Rattle.reading.specs.Bytes.{apostrophe}
use Rattle.reading.specs.Reading.{through}
use Rattle.reader.specs.Places.{past}
use Rattle.reader.proofs.through_end.Given as goal

abbrev pub invariant-loop-i : goal.invariant-loop-i
invariant-loop-i l = past l.at (through apostrophe (drop l.at l.text)) ≡ past l.i (through apostrophe (drop l.i l.text))
