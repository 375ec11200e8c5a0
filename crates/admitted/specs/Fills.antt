-- The check's scan, from an index on: the records that are left fill the places that are still to be filled.
-- If they do, the record at the index stands in the first place with no fault, and those behind it fill its children's places and the others.
-- With no place left, the index is the tree's end.
use Rattle.std.specs.Prelude.{ℕ, ◌+◌, ◌-◌, ◌≤◌, ◌<◌, ◌≡◌, List, ◌++◌, map, true}
use Rattle.record.specs.Record.{count}
use Rattle.grammar.specs.Shape.{Class}
use Rattle.tree.specs.Check.{Admitted, Place, place, holds, fits, scan, deepest}
use Rattle.tokens.specs.Tokens.{Source, at}

-- the records from index j on fill these places
pub record Fills (e : Source) (ps : List Place) (j : ℕ) : Type 0 where
  pub within : j ≤ count e.tree
  pub admits : scan e.tree e.text (count e.tree - j) j ps ≡ Admitted

-- a record in its place with no fault, and its children's places behind it
pub record Filled (e : Source) (d : ℕ) (c : Class) (ps : List Place) (j : ℕ) : Type 0 where
  pub there : j < count e.tree
  pub fit : fits c (at e j) ≡ true
  pub near : d ≤ deepest
  pub on : Fills e (map (place (d + 1)) (holds c (at e j)) ++ ps) (j + 1)
