-- 01, section 2, and fmt.rs: what each kind holds and what it writes, one entry a kind, in fmt.rs's order.
use Rattle.std.specs.Prelude.{ℕ, zero, suc, ◌+◌, List, [], ◌∷◌, ◌++◌, cond, eqb}
use Rattle.spelling.specs.Token.{TK_ADD, TK_ALTER, TK_ANALYZE, TK_AS, TK_ATTACH, TK_AUTOINCR, TK_BEGIN, TK_CHECK, TK_COLUMNKW, TK_COMMA, TK_COMMIT, TK_CONFLICT, TK_CONSTRAINT, TK_CREATE, TK_DEFAULT, TK_DELETE, TK_DETACH, TK_DO, TK_DROP, TK_EACH, TK_END, TK_EQ, TK_EXISTS, TK_EXPLAIN, TK_FOR, TK_FOREIGN, TK_FROM, TK_IF, TK_INDEX, TK_INSERT, TK_INTO, TK_KEY, TK_LP, TK_MATERIALIZED, TK_NOT, TK_NOTHING, TK_NULL, TK_ON, TK_OPTIMIZE, TK_OR, TK_PLAN, TK_PRAGMA, TK_PRIMARY, TK_QUERY, TK_REFERENCES, TK_REINDEX, TK_RELEASE, TK_RENAME, TK_REPLACE, TK_RETURNING, TK_ROLLBACK, TK_ROW, TK_RP, TK_SAVEPOINT, TK_SELECT, TK_SEMI, TK_SET, TK_TABLE, TK_TEMP, TK_TO, TK_TRANSACTION, TK_TRIGGER, TK_TYPE, TK_UNIQUE, TK_UPDATE, TK_USING, TK_VACUUM, TK_VALUES, TK_VIEW, TK_VIRTUAL, TK_WHEN, TK_WHERE, TK_WINDOW, TK_WITH}
use Rattle.grammar.specs.Kind.{NONE, TOKEN, RUN, TEXT, NUMBER, Cmd, AlterTable, Analyze, Attach, Begin, Commit, CreateIndex, CreateTable, CreateTrigger, CreateView, CreateMaterializedView, CreateVirtualTable, Delete, Detach, DropIndex, DropTable, DropTrigger, DropView, Insert, Pragma, Reindex, Optimize, Release, Rollback, Savepoint, SelectStmt, Update, Vacuum, CreateType, CreateDomain, DropType, CreateSequence, DropSequence, DropDomain, Select, SelectBody, CompoundSelect, OneSelect, Values, FromClause, JoinedTable, Table, TableCall, TableSelect, Sub, On, Using, RenameTo, AddColumn, AlterColumn, RenameColumn, DropColumn, ColumnsAndConstraints, AsSelect, ColumnDefinition, PrimaryKey, Unique, Check, ForeignKey, ForeignKeyClause, CommonTableExpr, TypeName, UpsertSet, UpsertNothing, With, Struct, Union, CustomType, TypeField, TypeParam, OperatorClause, DomainConstraint, Pair, REPLACE, NamedTableConstraint}
use Rattle.grammar.specs.Shape.{Class, one, list, one_or, small, ruled, Shape, nothing, token, ident, word, said, line, when, is, slot, each, commas, row, lines, tuples, given, filled, replacing, decimal, brackets, quoted, rowid, source, both, later, ◌·◌}

-- ---- places

-- n kinds from k on
abbrev pub from : ℕ → ℕ → List ℕ
from k zero = []
from k (suc n) = k ∷ from (k + 1) n

abbrev pub run : Class
run = one (RUN ∷ [])

abbrev pub text : Class
text = one (TEXT ∷ [])

abbrev pub number : Class
number = one (NUMBER ∷ [])

-- "Every slot or list place that takes a kind from 32 up also takes a RUN."
abbrev pub node : List ℕ → Class
node ks = one (RUN ∷ ks)

-- "An optional field also takes NONE."
abbrev pub maybe : Class → Class
maybe (one ks) = one (NONE ∷ ks)
maybe (list c) = one_or (NONE ∷ []) c
maybe (one_or ks c) = one_or (NONE ∷ ks) c
maybe small = small
maybe (ruled u) = ruled u

abbrev pub statement : Class
statement = node (from AlterTable 33)

abbrev pub select : Class
select = node (Select ∷ [])

abbrev pub one_select : Class
one_select = node (OneSelect ∷ Values ∷ [])

abbrev pub from_clause : Class
from_clause = node (FromClause ∷ [])

abbrev pub select_table : Class
select_table = node (Table ∷ TableCall ∷ TableSelect ∷ Sub ∷ [])

abbrev pub with : Class
with = node (With ∷ [])

-- "119 REPLACE (only for Insert's conflict)"
abbrev pub conflict : Class
conflict = maybe (node (REPLACE ∷ []))

abbrev pub column_definition : Class
column_definition = node (ColumnDefinition ∷ [])

abbrev pub type_name : Class
type_name = node (TypeName ∷ [])

-- "Cmd, LIST, RUN and any kind from 32 up but 119 may be the root. A root LIST holds what may be a root, except Cmd and LIST."
abbrev pub root_kinds : List ℕ
root_kinds = RUN ∷ (from AlterTable 33 ++ (from Select 39 ++ NamedTableConstraint ∷ []))

abbrev pub root : Class
root = one_or (Cmd ∷ root_kinds) (one root_kinds)

-- ---- flags: the number of a bit. Where a kind has two, if_not_exists is the second
abbrev pub unique : ℕ
unique = 0

abbrev pub temporary : ℕ
temporary = 0

abbrev pub if_exists : ℕ
if_exists = 0

abbrev pub auto_increment : ℕ
auto_increment = 0

abbrev pub if_not_exists₀ : ℕ
if_not_exists₀ = 0

abbrev pub if_not_exists₁ : ℕ
if_not_exists₁ = 1

abbrev pub not_null : ℕ
not_null = 1

abbrev pub cycle : ℕ
cycle = 1

abbrev pub for_each_row : ℕ
for_each_row = 2

-- the values of Cmd's flags, and of `materialized`
abbrev pub explain : ℕ
explain = 1

abbrev pub query_plan : ℕ
query_plan = 2

abbrev pub json : ℕ
json = 3

abbrev pub materialized : ℕ
materialized = 1

abbrev pub not_materialized : ℕ
not_materialized = 2

-- ---- words that come together
abbrev pub if_exists_lem : Shape
if_exists_lem = when if_exists (word TK_IF · word TK_EXISTS)

abbrev pub if_not_exists : ℕ → Shape
if_not_exists bit = when bit (word TK_IF · word TK_NOT · word TK_EXISTS)

abbrev pub parens : Shape → Shape
parens a = word TK_LP · a · word TK_RP

-- a word and what follows it, unless that is NONE
abbrev pub clause : ℕ → Class → Shape
clause w c = given (word w · slot (maybe c))

abbrev pub returning : Shape
returning = filled (word TK_RETURNING · commas run)

abbrev pub on_conflict : Shape
on_conflict = given (word TK_ON · word TK_CONFLICT · slot (maybe run))

-- ---- the table
abbrev pub table : List (ℕ × Shape)
table =
    -- leaves and groups
    (NONE, nothing)
    ∷ (TOKEN, token)
    ∷ (RUN, each (one (TOKEN ∷ [])))
    ∷ (TEXT, ident)
    ∷ (NUMBER, nothing)
    -- Cmd
    ∷ (
      Cmd,
      is explain (word TK_EXPLAIN)
          · is query_plan (word TK_EXPLAIN · word TK_QUERY · word TK_PLAN)
          · is json (word TK_EXPLAIN · word TK_QUERY · word TK_PLAN · said "FORMAT" · word TK_EQ · said "JSON")
          · slot statement
          · word TK_SEMI,
    )
    -- Stmt
    ∷ (AlterTable, word TK_ALTER · word TK_TABLE · slot run · slot (node (from RenameTo 5)))
    ∷ (Analyze, word TK_ANALYZE · slot (maybe run))
    ∷ (Attach, word TK_ATTACH · slot run · word TK_AS · slot run · clause TK_KEY run)
    ∷ (Begin, word TK_BEGIN · slot (maybe run) · clause TK_TRANSACTION run)
    ∷ (Commit, word TK_COMMIT · clause TK_TRANSACTION run)
    ∷ (
      CreateIndex,
      word TK_CREATE
          · when unique (word TK_UNIQUE)
          · word TK_INDEX
          · if_not_exists if_not_exists₁
          · slot run
          · word TK_ON
          · slot run
          · clause TK_USING run
          · parens (commas run)
          · filled (word TK_WITH · parens (commas (node (Pair ∷ []))))
          · clause TK_WHERE run,
    )
    ∷ (
      CreateTable,
      word TK_CREATE
          · when temporary (word TK_TEMP)
          · word TK_TABLE
          · if_not_exists if_not_exists₁
          · slot run
          · slot (node (ColumnsAndConstraints ∷ AsSelect ∷ [])),
    )
    ∷ (
      CreateTrigger,
      word TK_CREATE
          · when temporary (word TK_TEMP)
          · word TK_TRIGGER
          · if_not_exists if_not_exists₁
          · slot run
          · slot (maybe run)
          · slot run
          · word TK_ON
          · slot run
          · when for_each_row (word TK_FOR · word TK_EACH · word TK_ROW)
          · clause TK_WHEN run
          · line TK_BEGIN
          · lines run TK_SEMI
          · word TK_END,
    )
    ∷ (
      CreateView,
      word TK_CREATE
          · when temporary (word TK_TEMP)
          · word TK_VIEW
          · if_not_exists if_not_exists₁
          · slot run
          · filled (parens (commas run))
          · word TK_AS
          · slot select,
    )
    ∷ (
      CreateMaterializedView,
      word TK_CREATE
          · word TK_MATERIALIZED
          · word TK_VIEW
          · if_not_exists if_not_exists₀
          · slot run
          · filled (parens (commas run))
          · word TK_AS
          · slot select,
    )
    ∷ (
      CreateVirtualTable,
      word TK_CREATE
          · word TK_VIRTUAL
          · word TK_TABLE
          · if_not_exists if_not_exists₀
          · slot run
          · word TK_USING
          · slot run
          · parens (commas run),
    )
    ∷ (
      Delete,
      slot (maybe with)
          · word TK_DELETE
          · word TK_FROM
          · slot run
          · slot (maybe run)
          · clause TK_WHERE run
          · returning,
    )
    ∷ (Detach, word TK_DETACH · slot run)
    ∷ (DropIndex, word TK_DROP · word TK_INDEX · if_exists_lem · slot run)
    ∷ (DropTable, word TK_DROP · word TK_TABLE · if_exists_lem · slot run)
    ∷ (DropTrigger, word TK_DROP · word TK_TRIGGER · if_exists_lem · slot run)
    ∷ (DropView, word TK_DROP · word TK_VIEW · if_exists_lem · slot run)
    ∷ (
      Insert,
      slot (maybe with)
          · replacing (word TK_REPLACE · slot conflict) (word TK_INSERT · given (word TK_OR · slot conflict))
          · word TK_INTO
          · slot run
          · filled (parens (commas run))
          · slot run
          · returning,
    )
    ∷ (Pragma, word TK_PRAGMA · slot run · slot (maybe run))
    ∷ (Reindex, word TK_REINDEX · slot (maybe run))
    ∷ (Optimize, word TK_OPTIMIZE · word TK_INDEX · slot (maybe run))
    ∷ (Release, word TK_RELEASE · slot run)
    ∷ (Rollback, word TK_ROLLBACK · clause TK_TRANSACTION run · clause TK_TO run)
    ∷ (Savepoint, word TK_SAVEPOINT · slot run)
    ∷ (SelectStmt, slot select)
    ∷ (
      Update,
      slot (maybe with)
          · word TK_UPDATE
          · clause TK_OR run
          · slot run
          · slot (maybe run)
          · word TK_SET
          · commas run
          · clause TK_FROM from_clause
          · clause TK_WHERE run
          · returning,
    )
    ∷ (Vacuum, word TK_VACUUM · slot (maybe run) · clause TK_INTO run)
    ∷ (
      CreateType,
      word TK_CREATE
          · word TK_TYPE
          · if_not_exists if_not_exists₀
          · slot text
          · slot (node (Struct ∷ Union ∷ CustomType ∷ [])),
    )
    ∷ (
      CreateDomain,
      word TK_CREATE
          · said "DOMAIN"
          · if_not_exists if_not_exists₀
          · slot text
          · word TK_AS
          · slot text
          · clause TK_DEFAULT run
          · when not_null (word TK_NOT · word TK_NULL)
          · row (node (DomainConstraint ∷ [])),
    )
    ∷ (DropType, word TK_DROP · word TK_TYPE · if_exists_lem · slot text)
    ∷ (
      CreateSequence,
      word TK_CREATE
          · said "SEQUENCE"
          · if_not_exists if_not_exists₀
          · slot run
          · given (said "START" · said "WITH" · decimal)
          · given (said "INCREMENT" · said "BY" · decimal)
          · given (said "MINVALUE" · decimal)
          · given (said "MAXVALUE" · decimal)
          · when cycle (said "CYCLE"),
    )
    ∷ (DropSequence, word TK_DROP · said "SEQUENCE" · if_exists_lem · slot run)
    ∷ (DropDomain, word TK_DROP · said "DOMAIN" · if_exists_lem · slot text)
    -- clauses
    ∷ (Select, slot (maybe with) · slot (node (SelectBody ∷ [])) · slot (maybe run) · slot (maybe run))
    ∷ (SelectBody, slot one_select · row (node (CompoundSelect ∷ [])))
    ∷ (CompoundSelect, slot run · slot one_select)
    ∷ (
      OneSelect,
      word TK_SELECT
          · slot (maybe run)
          · commas run
          · clause TK_FROM from_clause
          · clause TK_WHERE run
          · slot (maybe run)
          · filled (word TK_WINDOW · commas run),
    )
    ∷ (Values, filled (word TK_VALUES · tuples run))
    ∷ (FromClause, slot select_table · row (node (JoinedTable ∷ [])))
    ∷ (JoinedTable, slot run · slot select_table · slot (maybe (node (On ∷ Using ∷ []))))
    ∷ (Table, slot run · slot (maybe run) · slot (maybe run))
    ∷ (TableCall, slot run · parens (commas run) · slot (maybe run))
    ∷ (TableSelect, parens (slot select) · slot (maybe run))
    ∷ (Sub, parens (slot from_clause) · slot (maybe run))
    ∷ (On, word TK_ON · slot run)
    ∷ (Using, word TK_USING · parens (commas run))
    ∷ (RenameTo, word TK_RENAME · word TK_TO · slot run)
    ∷ (AddColumn, word TK_ADD · word TK_COLUMNKW · slot column_definition)
    ∷ (AlterColumn, word TK_ALTER · word TK_COLUMNKW · slot run · word TK_TO · slot column_definition)
    ∷ (RenameColumn, word TK_RENAME · word TK_COLUMNKW · slot run · word TK_TO · slot run)
    ∷ (DropColumn, word TK_DROP · word TK_COLUMNKW · slot run)
    ∷ (
      ColumnsAndConstraints,
      parens (commas column_definition · filled (word TK_COMMA · commas (node (NamedTableConstraint ∷ []))))
          · both rowid (slot (maybe text)),
    )
    ∷ (AsSelect, word TK_AS · slot select)
    ∷ (ColumnDefinition, slot run · slot (maybe type_name) · row run)
    ∷ (
      PrimaryKey,
      word TK_PRIMARY · word TK_KEY · parens (commas run · when auto_increment (word TK_AUTOINCR)) · on_conflict,
    )
    ∷ (Unique, word TK_UNIQUE · parens (commas run) · on_conflict)
    ∷ (Check, word TK_CHECK · parens source)
    ∷ (
      ForeignKey,
      word TK_FOREIGN
          · word TK_KEY
          · parens (commas run)
          · word TK_REFERENCES
          · slot (node (ForeignKeyClause ∷ []))
          · slot (maybe run),
    )
    ∷ (ForeignKeyClause, slot run · filled (parens (commas run)) · row run)
    ∷ (
      CommonTableExpr,
      slot run
          · filled (parens (commas run))
          · word TK_AS
          · is materialized (word TK_MATERIALIZED)
          · is not_materialized (word TK_NOT · word TK_MATERIALIZED)
          · parens (slot select),
    )
    ∷ (TypeName, slot text · given (parens (slot (maybe run))) · brackets)
    ∷ (UpsertSet, word TK_DO · word TK_UPDATE · word TK_SET · commas run · clause TK_WHERE run)
    ∷ (UpsertNothing, word TK_DO · word TK_NOTHING)
    ∷ (With, slot run · commas (node (CommonTableExpr ∷ [])))
    ∷ (Struct, word TK_AS · said "STRUCT" · parens (commas (node (TypeField ∷ []))))
    ∷ (Union, word TK_AS · said "UNION" · parens (commas (node (TypeField ∷ []))))
    ∷ (
      CustomType,
      filled (parens (commas (node (TypeParam ∷ []))))
          · said "BASE"
          · slot text
          · given (said "ENCODE" · slot (maybe run))
          · given (said "DECODE" · slot (maybe run))
          · later (row (node (OperatorClause ∷ []))) (given (said "DEFAULT" · slot (maybe run))),
    )
    ∷ (TypeField, slot run · slot type_name)
    ∷ (TypeParam, slot text · slot (maybe text))
    ∷ (OperatorClause, said "OPERATOR" · quoted · slot (maybe text))
    ∷ (DomainConstraint, clause TK_CONSTRAINT text · word TK_CHECK · parens (slot run))
    ∷ (Pair, slot run · word TK_EQ · slot run)
    ∷ (REPLACE, nothing)
    ∷ (NamedTableConstraint, slot (maybe run) · slot (node (from PrimaryKey 4)))
    ∷ []

abbrev pub lookup : List (ℕ × Shape) → ℕ → Shape
lookup [] k = nothing
lookup (r ∷ rs) k = cond (eqb k r.0) r.1 (lookup rs k)

-- the entry of a kind
unfoldable pub shape : ℕ → Shape
shape k = lookup table k
