-- Bounds of the check's answers.
use Rattle.std.specs.Prelude.{ℕ, ◌≤◌}
use Rattle.tree.specs.Check.{Answer, place_of}

-- ---- the place of a refusal at a record is its index
abbrev pub Up : ℕ → Answer → Type 0
Up n a = place_of a ≤ n
