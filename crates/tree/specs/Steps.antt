-- The way along the places of a record's children.
use Rattle.std.specs.Prelude.{ℕ, ◌-◌, ◌≤◌, ◌≡◌, List, ◌++◌}
use Rattle.record.specs.Record.{count}
use Rattle.tree.specs.Check.{Place, scan}

-- along a row of places: from index i with the places ps to index j with qs left
pub record Along (t x : List ℕ) (i : ℕ) (ps : List Place) (j : ℕ) (qs : List Place) : Type 0 where
  pub onward : i ≤ j
  pub ended : j ≤ count t
  pub is : (rest : List Place) → scan t x (count t - j) j (qs ++ rest) ≡ scan t x (count t - i) i (ps ++ rest)
