-- The tokens of a tree without a depth: what each record writes is what its shape makes of what the records below it write.
-- A record's children stand behind it, so what it writes hangs on later records alone: by induction from the end of the tree on, no two
-- functions satisfy that, and with as many levels as there are records one does. This holds of every tree, admitted or not.
use Prim.Native.Nat.{ℕ, ◌≤◌}
use Rattle.std.specs.Prelude.{◌≡◌}
use Rattle.record.specs.Record.{count}
use Rattle.grammar.specs.Grammar.{shape}
use Rattle.tokens.specs.Tokens.{Source, Out, at, behind, means}

abbrev pub Solves : Source → (ℕ → ℕ → Out) → Type 0
Solves e f = (j : ℕ) → f (at e j).kind j ≡ means e f (at e j) (shape (at e j).kind) (behind e j)

-- an index from low on that is no further than the tree's end
abbrev pub Amid : Source → ℕ → ℕ → Type 0
Amid e low j = (low ≤ j) × (j ≤ count e.tree)
