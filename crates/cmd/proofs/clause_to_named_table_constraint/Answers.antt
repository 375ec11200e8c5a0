-- `clause_to_named_table_constraint` writes the clause that stands there.
use native.Mathlib.Omega.{arith}
use Rattle.pen.specs.Laws.{in_one}
use Rattle.pen.specs.Places.{other, alike}
use Rattle.cmd.specs.Laws.{not_late, last_late}
use Rattle.cmd.specs.Laws.{group_of, late_in}
use Rattle.cmd.proofs.clause_to_named_table_constraint.Goals as goal

pub returns-then-r-lt-COLUMN_DEFINITION : goal.returns-then-r-lt-COLUMN_DEFINITION
returns-then-r-lt-COLUMN_DEFINITION c r =
    let at-run = c in
    let at-if1 = at-run in
    let at_read = at-if1 in
    other at_read.read-r.ensures (in_one (at-run.run.ensures _ r)) (not_late _ at-if1.if-r-lt-COLUMN_DEFINITION.true)

pub returns-then-r-le-COLUMN_DEFINITION : goal.returns-then-r-le-COLUMN_DEFINITION
returns-then-r-le-COLUMN_DEFINITION c r =
    let at-column-definition = c in
    let at-if2 = at-column-definition in
    let at-if1 = at-if2 in
    let at_read = at-if1 in
    group_of at_read.read-r.ensures 100 1 (omega (arith, at-if1.if-r-lt-COLUMN_DEFINITION.false)) (omega (arith, at-if2.if-r-le-COLUMN_DEFINITION.true)) (late_in at_read.read-r.result.kind (omega (arith, at-if1.if-r-lt-COLUMN_DEFINITION.false)) (omega (arith, at-if2.if-r-le-COLUMN_DEFINITION.true))) (in_one (at-column-definition.column_definition.ensures r))

pub returns-then-r-le-FOREIGN_KEY : goal.returns-then-r-le-FOREIGN_KEY
returns-then-r-le-FOREIGN_KEY c r =
    let at-table-constraint = c in
    let at-if3 = at-table-constraint in
    let at-if2 = at-if3 in
    let at-if1 = at-if2 in
    let at_read = at-if1 in
    group_of at_read.read-r.ensures 101 4 (omega (arith, at-if2.if-r-le-COLUMN_DEFINITION.false)) (omega (arith, at-if3.if-r-le-FOREIGN_KEY.true)) (late_in at_read.read-r.result.kind (omega (arith, at-if1.if-r-lt-COLUMN_DEFINITION.false)) (omega (arith, at-if3.if-r-le-FOREIGN_KEY.true))) (in_one (at-table-constraint.table_constraint.ensures r))

pub returns-then-r-le-FOREIGN_KEY_CLAUSE : goal.returns-then-r-le-FOREIGN_KEY_CLAUSE
returns-then-r-le-FOREIGN_KEY_CLAUSE c r =
    let at-foreign-key-clause = c in
    let at-if4 = at-foreign-key-clause in
    let at-if3 = at-if4 in
    let at-if1 = at-if3 in
    let at_read = at-if1 in
    group_of at_read.read-r.ensures 105 1 (omega (arith, at-if3.if-r-le-FOREIGN_KEY.false)) (omega (arith, at-if4.if-r-le-FOREIGN_KEY_CLAUSE.true)) (late_in at_read.read-r.result.kind (omega (arith, at-if1.if-r-lt-COLUMN_DEFINITION.false)) (omega (arith, at-if4.if-r-le-FOREIGN_KEY_CLAUSE.true))) (in_one (at-foreign-key-clause.foreign_key_clause.ensures r))

pub returns-then-r-le-COMMON_TABLE_EXPR : goal.returns-then-r-le-COMMON_TABLE_EXPR
returns-then-r-le-COMMON_TABLE_EXPR c r =
    let at-cte = c in
    let at-if5 = at-cte in
    let at-if4 = at-if5 in
    let at-if1 = at-if4 in
    let at_read = at-if1 in
    group_of at_read.read-r.ensures 106 1 (omega (arith, at-if4.if-r-le-FOREIGN_KEY_CLAUSE.false)) (omega (arith, at-if5.if-r-le-COMMON_TABLE_EXPR.true)) (late_in at_read.read-r.result.kind (omega (arith, at-if1.if-r-lt-COLUMN_DEFINITION.false)) (omega (arith, at-if5.if-r-le-COMMON_TABLE_EXPR.true))) (in_one (at-cte.cte.ensures r))

pub returns-then-r-le-TYPE_NAME : goal.returns-then-r-le-TYPE_NAME
returns-then-r-le-TYPE_NAME c r =
    let at-type-name = c in
    let at-if6 = at-type-name in
    let at-if5 = at-if6 in
    let at-if1 = at-if5 in
    let at_read = at-if1 in
    group_of at_read.read-r.ensures 107 1 (omega (arith, at-if5.if-r-le-COMMON_TABLE_EXPR.false)) (omega (arith, at-if6.if-r-le-TYPE_NAME.true)) (late_in at_read.read-r.result.kind (omega (arith, at-if1.if-r-lt-COLUMN_DEFINITION.false)) (omega (arith, at-if6.if-r-le-TYPE_NAME.true))) (in_one (at-type-name.type_name.ensures r))

pub returns-then-r-le-UPSERT_NOTHING : goal.returns-then-r-le-UPSERT_NOTHING
returns-then-r-le-UPSERT_NOTHING c r =
    let at-upsert-do = c in
    let at-if7 = at-upsert-do in
    let at-if6 = at-if7 in
    let at-if1 = at-if6 in
    let at_read = at-if1 in
    group_of at_read.read-r.ensures 108 2 (omega (arith, at-if6.if-r-le-TYPE_NAME.false)) (omega (arith, at-if7.if-r-le-UPSERT_NOTHING.true)) (late_in at_read.read-r.result.kind (omega (arith, at-if1.if-r-lt-COLUMN_DEFINITION.false)) (omega (arith, at-if7.if-r-le-UPSERT_NOTHING.true))) (in_one (at-upsert-do.upsert_do.ensures r))

pub returns-then-r-le-WITH : goal.returns-then-r-le-WITH
returns-then-r-le-WITH c r =
    let at-with-clause = c in
    let at-if8 = at-with-clause in
    let at-if7 = at-if8 in
    let at-if1 = at-if7 in
    let at_read = at-if1 in
    group_of at_read.read-r.ensures 110 1 (omega (arith, at-if7.if-r-le-UPSERT_NOTHING.false)) (omega (arith, at-if8.if-r-le-WITH.true)) (late_in at_read.read-r.result.kind (omega (arith, at-if1.if-r-lt-COLUMN_DEFINITION.false)) (omega (arith, at-if8.if-r-le-WITH.true))) (in_one (at-with-clause.with_clause.ensures r))

pub returns-then-r-le-CUSTOM_TYPE : goal.returns-then-r-le-CUSTOM_TYPE
returns-then-r-le-CUSTOM_TYPE c r =
    let at-create-type-body = c in
    let at-if9 = at-create-type-body in
    let at-if8 = at-if9 in
    let at-if1 = at-if8 in
    let at_read = at-if1 in
    group_of at_read.read-r.ensures 111 3 (omega (arith, at-if8.if-r-le-WITH.false)) (omega (arith, at-if9.if-r-le-CUSTOM_TYPE.true)) (late_in at_read.read-r.result.kind (omega (arith, at-if1.if-r-lt-COLUMN_DEFINITION.false)) (omega (arith, at-if9.if-r-le-CUSTOM_TYPE.true))) (at-create-type-body.create_type_body.ensures r)

pub returns-then-r-le-TYPE_FIELD : goal.returns-then-r-le-TYPE_FIELD
returns-then-r-le-TYPE_FIELD c r =
    let at-type-field = c in
    let at-if10 = at-type-field in
    let at-if9 = at-if10 in
    let at-if1 = at-if9 in
    let at_read = at-if1 in
    group_of at_read.read-r.ensures 114 1 (omega (arith, at-if9.if-r-le-CUSTOM_TYPE.false)) (omega (arith, at-if10.if-r-le-TYPE_FIELD.true)) (late_in at_read.read-r.result.kind (omega (arith, at-if1.if-r-lt-COLUMN_DEFINITION.false)) (omega (arith, at-if10.if-r-le-TYPE_FIELD.true))) (in_one (at-type-field.type_field.ensures r))

pub returns-then-r-le-TYPE_PARAM : goal.returns-then-r-le-TYPE_PARAM
returns-then-r-le-TYPE_PARAM c r =
    let at-type-param = c in
    let at-if11 = at-type-param in
    let at-if10 = at-if11 in
    let at-if1 = at-if10 in
    let at_read = at-if1 in
    group_of at_read.read-r.ensures 115 1 (omega (arith, at-if10.if-r-le-TYPE_FIELD.false)) (omega (arith, at-if11.if-r-le-TYPE_PARAM.true)) (late_in at_read.read-r.result.kind (omega (arith, at-if1.if-r-lt-COLUMN_DEFINITION.false)) (omega (arith, at-if11.if-r-le-TYPE_PARAM.true))) (in_one (at-type-param.type_param.ensures r))

pub returns-then-r-le-OPERATOR_CLAUSE : goal.returns-then-r-le-OPERATOR_CLAUSE
returns-then-r-le-OPERATOR_CLAUSE c r =
    let at-operator-clause = c in
    let at-if12 = at-operator-clause in
    let at-if11 = at-if12 in
    let at-if1 = at-if11 in
    let at_read = at-if1 in
    group_of at_read.read-r.ensures 116 1 (omega (arith, at-if11.if-r-le-TYPE_PARAM.false)) (omega (arith, at-if12.if-r-le-OPERATOR_CLAUSE.true)) (late_in at_read.read-r.result.kind (omega (arith, at-if1.if-r-lt-COLUMN_DEFINITION.false)) (omega (arith, at-if12.if-r-le-OPERATOR_CLAUSE.true))) (at-operator-clause.operator_clause.ensures r)

pub returns-then-r-le-DOMAIN_CONSTRAINT : goal.returns-then-r-le-DOMAIN_CONSTRAINT
returns-then-r-le-DOMAIN_CONSTRAINT c r =
    let at-domain-constraint = c in
    let at-if13 = at-domain-constraint in
    let at-if12 = at-if13 in
    let at-if1 = at-if12 in
    let at_read = at-if1 in
    group_of at_read.read-r.ensures 117 1 (omega (arith, at-if12.if-r-le-OPERATOR_CLAUSE.false)) (omega (arith, at-if13.if-r-le-DOMAIN_CONSTRAINT.true)) (late_in at_read.read-r.result.kind (omega (arith, at-if1.if-r-lt-COLUMN_DEFINITION.false)) (omega (arith, at-if13.if-r-le-DOMAIN_CONSTRAINT.true))) (in_one (at-domain-constraint.domain_constraint.ensures r))

pub returns-then-r-le-PAIR : goal.returns-then-r-le-PAIR
returns-then-r-le-PAIR c r =
    let at_pair = c in
    let at-if14 = at_pair in
    let at-if13 = at-if14 in
    let at-if1 = at-if13 in
    let at_read = at-if1 in
    group_of at_read.read-r.ensures 118 1 (omega (arith, at-if13.if-r-le-DOMAIN_CONSTRAINT.false)) (omega (arith, at-if14.if-r-le-PAIR.true)) (late_in at_read.read-r.result.kind (omega (arith, at-if1.if-r-lt-COLUMN_DEFINITION.false)) (omega (arith, at-if14.if-r-le-PAIR.true))) (in_one (at_pair.pair.ensures r))

pub returns : goal.returns
returns c r =
    let at-named-table-constraint = c in
    let at-if14 = at-named-table-constraint in
    let at_read = at-if14 in
    alike at_read.read-r.ensures (last_late at_read.read-r.result.kind (omega (arith, at-if14.if-r-le-PAIR.false))) (in_one (at-named-table-constraint.named_table_constraint.ensures r))
