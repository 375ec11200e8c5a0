-- `position::newlines` meets its contract. The loop's invariant: what was found is that of the bytes so far.
use mathlib.Core.Path.{◌≡◌}
use lib.ListN.{take}
use Rattle.position.specs.Position.{lines, column}
use Rattle.position.proofs.newlines.Given as goal

abbrev pub invariant-loop-b : goal.invariant-loop-b
invariant-loop-b l = (l.lines ≡ lines (take l.b-index l.s)) × (l.behind ≡ column 0 (take l.b-index l.s))
