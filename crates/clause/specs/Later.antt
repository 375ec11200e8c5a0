-- A part that is held in one order and written in the other.
use Rattle.std.specs.Prelude.{ℕ, List, [], ◌∷◌}
use Rattle.record.specs.declared.Record.{Record}
use Rattle.grammar.specs.Kind.{OperatorClause}
use Rattle.grammar.specs.Shape.{Shape, said, slot, row, given, later, ◌·◌}
use Rattle.grammar.specs.Grammar.{run, node, maybe}
use Rattle.tokens.specs.Tokens as tokens
use Rattle.tokens.specs.Tokens.{means}
use Rattle.pen.specs.declared.Pen.{Pen}
use Rattle.pen.specs.Pen.{Lent, source_of, Spot, put, Writes}
use Rattle.pen.specs.Laws.{later_puts}

-- a custom type's operators and default
abbrev pub operators_later : Shape
operators_later = later (row (node (OperatorClause ∷ []))) (given (said "DEFAULT" · slot (maybe run)))

-- what is held in one order and written in the other: the first is skimmed for its end, the second is written from there, and then the first
pub later_written : {e : Lent} {w n o : List ℕ} {d : ℕ} {r : Record} {s t : Shape} {p f : Pen} {b c : Spot} → Writes e w d r s (p, []) (f, n)
    → Writes e w d r t (record { sink = p.sink; next = f.next }, o) b → Writes e w d r s (record { sink = b.0.sink; next = p.next }, b.1) c
    → Writes e w d r (later s t) (p, o) (record { sink = c.0.sink; next = b.0.next }, c.1)
unfolding means put
later_written {e} {w} {n} {o} {d} {r} {s} {t} {p} {f} {b} {c} skim q h =
    record { puts = λ u. later_puts (means (source_of u e) (tokens.node (source_of u e) d) r s p.next) (means (source_of u e) (tokens.node (source_of u e) d) r t) (skim.puts u) (q.puts u) (h.puts u) }
