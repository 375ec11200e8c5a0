-- `select::clause_of`: each kind of clause that stands in lists is written by its function, and any other as what no class takes.
use Rattle.std.proofs.Common.{ne_eqb}
use Rattle.grammar.specs.Kind.{ColumnDefinition, NamedTableConstraint, TypeField, TypeParam, DomainConstraint, Pair, CommonTableExpr, CompoundSelect, JoinedTable}
use Rattle.clause.specs.Held.{held}
use Rattle.clause.proofs.select.clause_of.Goals as goal

pub returns-then-kind-eq-COLUMN_DEFINITION : goal.returns-then-kind-eq-COLUMN_DEFINITION
unfolding held
returns-then-kind-eq-COLUMN_DEFINITION c r = rw c.if-kind-eq-COLUMN_DEFINITION.true (c.column_definition.ensures r)

pub returns-then-kind-eq-NAMED_TABLE_CONSTRAINT : goal.returns-then-kind-eq-NAMED_TABLE_CONSTRAINT
unfolding held
returns-then-kind-eq-NAMED_TABLE_CONSTRAINT c r = rw c.if-kind-eq-NAMED_TABLE_CONSTRAINT.true (c.named_table_constraint.ensures r)

pub returns-then-kind-eq-TYPE_FIELD : goal.returns-then-kind-eq-TYPE_FIELD
unfolding held
returns-then-kind-eq-TYPE_FIELD c r = rw c.if-kind-eq-TYPE_FIELD.true (c.type_field.ensures r)

pub returns-then-kind-eq-TYPE_PARAM : goal.returns-then-kind-eq-TYPE_PARAM
unfolding held
returns-then-kind-eq-TYPE_PARAM c r = rw c.if-kind-eq-TYPE_PARAM.true (c.type_param.ensures r)

pub returns-then-kind-eq-DOMAIN_CONSTRAINT : goal.returns-then-kind-eq-DOMAIN_CONSTRAINT
unfolding held
returns-then-kind-eq-DOMAIN_CONSTRAINT c r = rw c.if-kind-eq-DOMAIN_CONSTRAINT.true (c.domain_constraint.ensures r)

pub returns-then-kind-eq-PAIR : goal.returns-then-kind-eq-PAIR
unfolding held
returns-then-kind-eq-PAIR c r = rw c.if-kind-eq-PAIR.true (c.pair.ensures r)

pub returns-then-kind-eq-COMMON_TABLE_EXPR : goal.returns-then-kind-eq-COMMON_TABLE_EXPR
unfolding held
returns-then-kind-eq-COMMON_TABLE_EXPR c r = rw c.if-kind-eq-COMMON_TABLE_EXPR.true (c.cte.ensures r)

pub returns-then-kind-eq-COMPOUND_SELECT : goal.returns-then-kind-eq-COMPOUND_SELECT
unfolding held
returns-then-kind-eq-COMPOUND_SELECT c r = rw c.if-kind-eq-COMPOUND_SELECT.true (c.compound.ensures r)

pub returns-then-kind-eq-JOINED_TABLE : goal.returns-then-kind-eq-JOINED_TABLE
unfolding held
returns-then-kind-eq-JOINED_TABLE c r = rw c.if-kind-eq-JOINED_TABLE.true (c.joined.ensures r)

pub returns : goal.returns
unfolding held
returns c r = rw (ne_eqb _ ColumnDefinition c.if-kind-eq-COLUMN_DEFINITION.false, ne_eqb _ NamedTableConstraint c.if-kind-eq-NAMED_TABLE_CONSTRAINT.false, ne_eqb _ TypeField c.if-kind-eq-TYPE_FIELD.false, ne_eqb _ TypeParam c.if-kind-eq-TYPE_PARAM.false, ne_eqb _ DomainConstraint c.if-kind-eq-DOMAIN_CONSTRAINT.false, ne_eqb _ Pair c.if-kind-eq-PAIR.false, ne_eqb _ CommonTableExpr c.if-kind-eq-COMMON_TABLE_EXPR.false, ne_eqb _ CompoundSelect c.if-kind-eq-COMPOUND_SELECT.false, ne_eqb _ JoinedTable c.if-kind-eq-JOINED_TABLE.false) (c.run.ensures _ r)
