-- The text of a tree that the check admits is not longer than `ample_for` of its tree, a number that one pass over the records comes to.
-- The scan takes a place off its list at each record and puts as many on as the record has children. It starts with one place, the root's, and
-- ends with none, so the children of all records are one fewer than the records. And each record that fits pays for its words `own` itself
-- and `each_slot` for each child, since it has as many children as its entry has slots.
use Prim.Native.Nat.{ℕ, ◌+◌, ◌≤◌, ◌<◌}
use Rattle.std.specs.Prelude.{◌≡◌, true, length}
use mathlib.Core.List.{List}
use Rattle.record.specs.Record.{record_at}
use Rattle.record.specs.declared.Record.{Record}
use Rattle.grammar.specs.Shape.{Class}
use Rattle.tree.specs.Check.{Place, fits}
use Rattle.tokens.specs.Ample.{sum}

-- how many children the first n records have
abbrev pub children : List ℕ → ℕ → ℕ
children t n = sum (λ r. r.kids) t n

-- a record that stands in some place with no fault
pub record Fit (r : Record) : Type 0 where
  pub class : Class
  pub fit : fits class r ≡ true

-- the n records from index i on, and the places that they fill
pub record Counted (t : List ℕ) (n i : ℕ) (ps : List Place) : Type 0 where
  pub counts : children t (i + n) + length ps ≡ children t i + n
  pub each : (j : ℕ) → i ≤ j → j < i + n → Fit (record_at t j)
