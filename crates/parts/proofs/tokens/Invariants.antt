-- `parts::tokens` writes a row of TOKENs: what is left of it from here is what was to be written at the start.
use mathlib.Core.Path.{◌≡◌}
use mathlib.Core.List.{[]}
use Rattle.mode.specs.declared.Edition.{Edition}
use Rattle.tokens.specs.Tokens.{rows}
use Rattle.pen.specs.Pen.{source_of, source, put}
use Rattle.pen.specs.Places.{token_at}
use Prim.Native.Nat.{◌-◌}
use Rattle.parts.proofs.tokens.Given as goal

abbrev pub invariant-loop : goal.invariant-loop
invariant-loop l = (v : Edition) → put l.from.pool.now (rows (token_at (source_of v (source l.from.tree.now l.from.text.now))) [] [] (l.n - l.counter) l.q.next) (l.q, l.out) ≡ put l.from.pool.now (rows (token_at (source_of v (source l.from.tree.now l.from.text.now))) [] [] l.n l.initial.q.next) (l.initial.q, l.initial.out)
