-- The kinds of clauses that stand in lists.
use Rattle.std.specs.Prelude.{ℕ, List, [], ◌∷◌, cond}
use Rattle.laws.specs.Among.{among}
use Rattle.grammar.specs.Kind.{ColumnDefinition, NamedTableConstraint, TypeField, TypeParam, DomainConstraint, Pair, CommonTableExpr, CompoundSelect, JoinedTable}

abbrev pub held_kinds : List ℕ
held_kinds =
    ColumnDefinition ∷ NamedTableConstraint ∷ TypeField ∷ TypeParam ∷ DomainConstraint ∷ Pair ∷ CommonTableExpr ∷ CompoundSelect ∷ JoinedTable ∷ []

-- the kind, if it is one of them
unfoldable pub held : ℕ → List ℕ
held k = cond (among k held_kinds) (k ∷ []) []
