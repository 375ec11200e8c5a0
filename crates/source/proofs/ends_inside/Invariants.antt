-- `source::ends_inside` meets its contract. The loop's invariant: the reading that goes on from the state over the bytes that are left ends where that of the whole source does.
use mathlib.Core.Path.{◌≡◌}
use lib.ListN.{drop}
use Rattle.source.specs.Source.{outside, ends}
use Rattle.source.specs.Reading.{from}
use Rattle.source.proofs.ends_inside.Given as goal

abbrev pub invariant-loop-b : goal.invariant-loop-b
invariant-loop-b l = from l.at (drop l.b-index l.source) ≡ ends l.source outside
