-- `tree::check_row` meets its contract: it calls itself on child records, and the depth that is left falls at each step down. Along a row goes a
-- loop: what is left of it from here leads to the same answer as all of it from the start (`Along`). A record is refused, or it has no
-- children, or they are the TOKENs of a RUN, or a row below.
use Prim.Native.Nat.{◌-◌, ◌+◌, ◌*◌}
use mathlib.Core.Path.{◌≡◌}
use mathlib.Core.Bool.{true}
use mathlib.Core.List.{map}
use Rattle.grammar.specs.Packed.{along, all_held}
use Rattle.tree.specs.Check.{place}
use Rattle.tree.specs.Steps.{Along}
use Rattle.tree.proofs.+check_row.Given as goal

abbrev pub decreases-check_row : goal.decreases-check_row
decreases-check_row l = 2 * l.left

abbrev pub decreases-row_below : goal.decreases-row_below
decreases-row_below l = 2 * l.left + 1

-- what is left of the row are all places
abbrev pub invariant-check_row-loop-child : goal.invariant-check_row-loop-child
invariant-check_row-loop-child l = (all_held l.places (l.n - l._child) ≡ true)
    × Along l.on.tree.now l.on.text.now l.index (map (place (65 - l.left)) (along l.row l.n)) l.next (map (place (65 - l.left)) (along l.places (l.n - l._child)))
