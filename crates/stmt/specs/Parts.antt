-- Parts of the statements' entries that have functions of their own.
use Rattle.std.specs.Prelude.{ℕ, [], ◌∷◌}
use Rattle.spelling.specs.Token.{TK_AS, TK_BEGIN, TK_EACH, TK_END, TK_FOR, TK_FROM, TK_INSERT, TK_NOT, TK_NULL, TK_OR, TK_REPLACE, TK_ROW, TK_SEMI, TK_SET, TK_WHEN, TK_WHERE, TK_WITH}
use Rattle.grammar.specs.Kind.{Pair}
use Rattle.grammar.specs.Shape.{Shape, word, said, line, when, slot, commas, lines, given, filled, replacing, ◌·◌}
use Rattle.grammar.specs.Grammar.{run, node, select, from_clause, conflict, parens, clause, returning}

abbrev pub index_options : Shape
index_options = filled (word TK_WITH · parens (commas (node (Pair ∷ []))))

abbrev pub trigger_body : Shape
trigger_body = clause TK_WHEN run · line TK_BEGIN · lines run TK_SEMI · word TK_END

abbrev pub view_body : Shape
view_body = slot run · filled (parens (commas run)) · word TK_AS · slot select

abbrev pub for_each_row' : ℕ → Shape
for_each_row' bit = when bit (word TK_FOR · word TK_EACH · word TK_ROW)

abbrev pub not_null' : ℕ → Shape
not_null' bit = when bit (word TK_NOT · word TK_NULL)

abbrev pub cycle' : ℕ → Shape
cycle' bit = when bit (said "CYCLE")

abbrev pub insert_or : Shape
insert_or = replacing (word TK_REPLACE · slot conflict) (word TK_INSERT · given (word TK_OR · slot conflict))

abbrev pub update_rest : Shape
update_rest = word TK_SET · commas run · clause TK_FROM from_clause · clause TK_WHERE run · returning
