-- 02, xiii: "bytes nobody named". What a tree writes hangs on the parts of the text that its records name, and on no other byte, in both editions. One
-- induction over shapes: a shape reads a part only of a record that names it. It holds of every tree, admitted or not, and of texts of any length.
use Prim.Native.Nat.{ℕ, ◌<◌}
use Rattle.std.specs.Prelude.{◌≡◌}
use mathlib.Core.List.{List}
use Rattle.std.proofs.Math.Bool.{true}
use Rattle.record.specs.Record.{part, record_at, count}
use Rattle.record.specs.declared.Record.{Record}
use Rattle.tree.specs.Check.{has_part}

-- the part of a text that a record names: a TEXT names one, and so does a TOKEN with a value (`tree/Check.has_part`)
abbrev pub part_of : List ℕ → Record → List ℕ
part_of x r = part x r.start r.len

-- "they agree on every part that a record of the tree names"
pub record Agree (t x y : List ℕ) : Type 0 where
  pub parts : (j : ℕ) → j < count t → has_part (record_at t j) ≡ true → part_of x (record_at t j) ≡ part_of y (record_at t j)
