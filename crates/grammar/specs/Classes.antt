-- The places that occur in the grammar, numbered: what the code names by a number. 0 is a place where nothing may stand.
use Rattle.std.specs.Prelude.{ℕ, ◌≡◌, refl, List, [], ◌∷◌, get_or}
use Rattle.grammar.specs.Kind.{TOKEN, SelectBody, CompoundSelect, JoinedTable, On, Using, RenameTo, ColumnsAndConstraints, AsSelect, PrimaryKey, ForeignKeyClause, CommonTableExpr, Struct, Union, CustomType, TypeField, TypeParam, OperatorClause, DomainConstraint, Pair, NamedTableConstraint}
use Rattle.grammar.specs.Shape.{Class, one, list, small, check_source, without_rowid, ruled}
use Rattle.grammar.specs.Grammar.{from, run, text, number, node, maybe, statement, select, one_select, from_clause, select_table, with, column_definition, conflict, type_name, root_kinds, root}

unfoldable pub classes : List Class
classes =
    one []  -- 0
    ∷ root  -- 1
    ∷ one root_kinds  -- 2
    ∷ one (TOKEN ∷ [])  -- 3
    ∷ small  -- 4
    ∷ statement  -- 5
    ∷ run  -- 6
    ∷ node (from RenameTo 5)  -- 7
    ∷ maybe run  -- 8
    ∷ list run  -- 9
    ∷ list (node (Pair ∷ []))  -- 10
    ∷ node (Pair ∷ [])  -- 11
    ∷ node (ColumnsAndConstraints ∷ AsSelect ∷ [])  -- 12
    ∷ select  -- 13
    ∷ maybe with  -- 14
    ∷ conflict  -- 15
    ∷ maybe from_clause  -- 16
    ∷ text  -- 17
    ∷ node (Struct ∷ Union ∷ CustomType ∷ [])  -- 18
    ∷ list (node (DomainConstraint ∷ []))  -- 19
    ∷ node (DomainConstraint ∷ [])  -- 20
    ∷ maybe number  -- 21
    ∷ node (SelectBody ∷ [])  -- 22
    ∷ one_select  -- 23
    ∷ list (node (CompoundSelect ∷ []))  -- 24
    ∷ node (CompoundSelect ∷ [])  -- 25
    ∷ list (list run)  -- 26
    ∷ select_table  -- 27
    ∷ list (node (JoinedTable ∷ []))  -- 28
    ∷ node (JoinedTable ∷ [])  -- 29
    ∷ maybe (node (On ∷ Using ∷ []))  -- 30
    ∷ from_clause  -- 31
    ∷ column_definition  -- 32
    ∷ list column_definition  -- 33
    ∷ list (node (NamedTableConstraint ∷ []))  -- 34
    ∷ node (NamedTableConstraint ∷ [])  -- 35
    ∷ maybe text  -- 36
    ∷ maybe type_name  -- 37
    ∷ node (ForeignKeyClause ∷ [])  -- 38
    ∷ list (node (CommonTableExpr ∷ []))  -- 39
    ∷ node (CommonTableExpr ∷ [])  -- 40
    ∷ list (node (TypeField ∷ []))  -- 41
    ∷ node (TypeField ∷ [])  -- 42
    ∷ list (node (TypeParam ∷ []))  -- 43
    ∷ node (TypeParam ∷ [])  -- 44
    ∷ list (node (OperatorClause ∷ []))  -- 45
    ∷ node (OperatorClause ∷ [])  -- 46
    ∷ type_name  -- 47
    ∷ node (from PrimaryKey 4)  -- 48
    ∷ ruled check_source  -- 49
    ∷ ruled without_rowid  -- 50
    ∷ []

abbrev pub classes_held : ℕ
classes_held = 51

unfoldable pub class_at : ℕ → Class
class_at n = get_or classes n (one [])

-- the places that the check names itself
abbrev pub root_at : ℕ
root_at = 1

abbrev pub token_at : ℕ
token_at = 3

abbrev pub small_at : ℕ
small_at = 4

pub root_is : class_at root_at ≡ root
unfolding class_at classes
root_is = refl

pub token_is : class_at token_at ≡ one (TOKEN ∷ [])
unfolding class_at classes
token_is = refl
