-- Parts of the entries of OneSelect and CommonTableExpr that have functions of their own.
use Rattle.spelling.specs.Token.{TK_WHERE, TK_WINDOW, TK_NOT, TK_MATERIALIZED}
use Rattle.grammar.specs.Shape.{Shape, word, is, slot, commas, filled, ◌·◌}
use Rattle.grammar.specs.Grammar.{run, select, maybe, parens, clause, materialized, not_materialized}

-- what stands behind a from clause
abbrev pub filters : Shape
filters = clause TK_WHERE run · slot (maybe run) · filled (word TK_WINDOW · commas run)

-- what stands behind a CommonTableExpr's AS
abbrev pub is_materialized : Shape
is_materialized = is materialized (word TK_MATERIALIZED)

abbrev pub is_not_materialized : Shape
is_not_materialized = is not_materialized (word TK_NOT · word TK_MATERIALIZED)

abbrev pub cte_body : Shape
cte_body = is_materialized · is_not_materialized · parens (slot select)
