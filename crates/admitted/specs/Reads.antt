-- The check's scan has a list of places still to be filled, and a shape goes along the records in the same order. So, wherever the records from j
-- on fill the places of a shape's slots and others behind them, what the shape writes hangs on records below it that stand in their places alone,
-- and the records from the index that it leaves fill the others. No place is deeper than 64, so with 64 levels none below is asked for.
use Prim.Native.Nat.{ℕ, suc}
use Rattle.std.specs.Prelude.{◌≡◌}
use Rattle.grammar.specs.Grammar.{shape}
use Rattle.tokens.specs.Tokens.{Source, Out, at, behind}
use Rattle.admitted.specs.Watched.{watched}

-- ---- one level after another: what a record writes at level n + 1 is what its shape makes of level n
abbrev pub Rises : Source → (ℕ → Out) → (ℕ → ℕ → ℕ → Out) → Type 0
Rises e u φ = (n j : ℕ) → φ (suc n) (at e j).kind j ≡ watched e u (φ n) (at e j) (shape (at e j).kind) (behind e j)
