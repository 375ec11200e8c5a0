-- `parts::elements` writes a row: what is left of it from here is what was to be written at the start.
use Rattle.std.proofs.Common.{◌≡◌, [], ℕ, ◌-◌, nat_lt}
use Rattle.tokens.specs.Tokens.{Out, rows, comma}
use Rattle.pen.specs.Pen.{put}
use Rattle.pen.specs.Rows.{opt}
use mathlib.Core.Bool.{◌&&◌}
use Rattle.parts.specs.Lists.{EachPuts}
use Rattle.parts.proofs.elements.Given as goal

abbrev pub invariant-loop-i : goal.invariant-loop-i
invariant-loop-i g l =
    goal.F-IsAlwaysCallable g l.element × ((f : ℕ → Out) → EachPuts l.from f (goal.F-post g l.element)
    → put l.from.pool.now (rows f (opt (l.commas && nat_lt 0 l.i) comma) (opt l.commas comma) (l.n - l.i) l.q.next) (l.q, l.out)
    ≡ put l.from.pool.now (rows f [] (opt l.commas comma) l.n l.initial.q.next) (l.initial.q, l.initial.out))
