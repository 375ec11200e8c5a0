-- `field::profile_row` meets its contract: it calls itself on child records, and the depth that is left falls at each step down. Along a row goes a
-- loop: what is left of it from here leads to the same first record that breaks the profile as all of it from the start (`Going`). A record breaks
-- it, or it has nothing below it, or what is below it is walked.
use Prim.Native.Nat.{◌-◌}
use mathlib.Core.Path.{◌≡◌}
use mathlib.Core.List.{List, map}
use Rattle.grammar.specs.Shape.{Class}
use Rattle.tree.specs.Check.{place}
use Rattle.field.specs.Nodes.{nodes_at, codes}
use Rattle.field.specs.Walk.{Going}
use Rattle.field.proofs.+profile_row.Given as goal

abbrev pub decreases-profile_row : goal.decreases-profile_row
decreases-profile_row l = l.left

-- whatever places they are, some of them are left
abbrev pub invariant-loop-child : goal.invariant-loop-child
invariant-loop-child l =
    (cs : List Class) → map nodes_at cs ≡ codes l.nodes l.n → Going l.tree l.index (map (place (25 - l.left)) cs) l.left l.next l.row (l.n - l._child)
