-- `decimal::count` meets its contract. The loop's invariant: the number has at least the digits counted.
use Prim.Native.Nat.{◌≤◌}
use lib.ListN.{length}
use Rattle.decimal.specs.Decimal.{natural}
use Rattle.decimal.proofs.count.Given as goal

abbrev pub invariant-loop-k : goal.invariant-loop-k
invariant-loop-k l = l.k ≤ length (natural l.n)
