-- The root of a tree, at an index, and the parts of Cmd's entry.
use Rattle.std.specs.Prelude.{ℕ, List, [], ◌∷◌, ◌++◌, cond, eqb}
use Rattle.spelling.specs.Token.{TK_EQ, TK_EXPLAIN, TK_PLAN, TK_QUERY}
use Rattle.grammar.specs.Kind.{LIST, ColumnDefinition, NamedTableConstraint}
use Rattle.grammar.specs.Shape.{one, Shape, word, said, is, ◌·◌}
use Rattle.grammar.specs.Grammar.{from, root, root_kinds, explain, query_plan, json}
use Rattle.tokens.specs.Tokens.{Source, Out, at, rows, listed, placed, comma, node}
use Rattle.pen.specs.Pen.{Spot, Puts}

-- Cmd's words
abbrev pub explaining : Shape
explaining = is explain (word TK_EXPLAIN)

abbrev pub plan : Shape
plan = word TK_EXPLAIN · word TK_QUERY · word TK_PLAN

abbrev pub planning : Shape
planning = is query_plan plan

abbrev pub format_json : Shape
format_json = said "FORMAT" · word TK_EQ · said "JSON"

abbrev pub planning_json : Shape
planning_json = is json (word TK_EXPLAIN · word TK_QUERY · word TK_PLAN · format_json)

-- the clauses behind AsSelect
abbrev pub late_clauses : List ℕ
late_clauses = from ColumnDefinition 19 ++ NamedTableConstraint ∷ []

-- elements of a root LIST
abbrev pub RootRow : Source → List ℕ → ℕ → ℕ → Spot → Spot → Type 0
RootRow e w d n a b = Puts w (rows (placed e (node e d) (one root_kinds)) [] comma n a.0.next) a b

-- a root at index j
unfoldable pub root_out : Source → ℕ → ℕ → Out
root_out e d j = cond (eqb (at e j).kind LIST) (listed e (placed e (node e d) (one root_kinds)) comma j) (placed e (node e d) root j)

pub record Rooted (e : Source) (w : List ℕ) (d : ℕ) (a b : Spot) : Type 0 where
  pub puts : Puts w (root_out e d a.0.next) a b
