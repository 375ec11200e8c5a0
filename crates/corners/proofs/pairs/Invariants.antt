-- `corners::pairs` writes pairs of brackets: what is left to be written from here is what was to be written at the start.
use mathlib.Core.Path.{◌≡◌}
use Rattle.tokens.specs.Corners.{pairs}
use Rattle.tokens.specs.Tokens.{say}
use Rattle.pen.specs.Pen.{put}
use Prim.Native.Nat.{◌-◌}
use Rattle.corners.proofs.pairs.Given as goal

abbrev pub invariant-loop : goal.invariant-loop
invariant-loop l = put l.from.pool.now (say (pairs (l.n - l.counter)) l.q.next) (l.q, l.out) ≡ put l.from.pool.now (say (pairs l.n) l.initial.q.next) (l.initial.q, l.initial.out)
