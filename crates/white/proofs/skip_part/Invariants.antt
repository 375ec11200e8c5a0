-- `white::skip_part` meets its contract. The loop's invariant: the bytes from `at` to `i` belong to one part that is still open.
use Prim.Native.Nat.{◌-◌}
use mathlib.Core.Path.{◌≡◌}
use Rattle.white.specs.Steps.{parts_from}
use Rattle.white.proofs.skip_part.Given as goal

abbrev pub invariant-loop-i : goal.invariant-loop-i
invariant-loop-i l = parts_from l.s l.i (l.i - l.at) ≡ parts_from l.s l.at 0
