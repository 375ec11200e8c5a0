-- `decimal::fill` meets its contract. The loop's invariant: the columns that are left, stored from `at` on, make the output what it has to be.
use Prim.Native.Nat.{◌+◌, ◌-◌, ◌^◌, ◌≤◌, ◌<◌}
use mathlib.Core.Path.{◌≡◌}
use lib.Seq.{sets}
use Rattle.decimal.specs.Decimal.{natural}
use Rattle.decimal.proofs.Columns.{columns}
use Rattle.decimal.proofs.fill.Given as goal

abbrev pub invariant-loop-at : goal.invariant-loop-at
invariant-loop-at l = (l.first ≤ l.at) × (l.at ≤ l.last) × (l.rest < 10 ^ (l.last + 1 - l.at)) × (sets l.out l.at (columns (l.last + 1 - l.at) l.rest) ≡ sets l.initial.out l.first (natural l.n))
