-- Select, one-select, from and table meet their contracts: they call each other on child records, and the depth that is left falls at each step down.
-- Each member writes its entry, a step a call; along a list goes `parts::list`.
use borrow.Author.Tests.{ne_eqb}
use native.Mathlib.Omega.{arith}
use borrow.Author.Rules.{rules}
use mathlib.Core.Bool.{true, false}
use mathlib.Core.List.{[], ◌∷◌}
use mathlib.Core.Path.{refl}
use Prim.Native.Nat.{◌≤◌}
use Rattle.record.specs.Laws.{nothing as blank}
use Rattle.grammar.specs.Kind.{CompoundSelect, OneSelect, Values, JoinedTable, Table, TableCall, TableSelect, Sub, CommonTableExpr}
use Rattle.grammar.specs.Grammar as grammar
use Rattle.grammar.specs.Grammar.{shape}
use Rattle.pen.specs.Laws.{◌▹◌, same}
use Rattle.pen.specs.Places.{shut, opened, left_some, shallow, other, node_on, optional, given_none, given_some}
use Rattle.parts.specs.Laws.{list_of}
use Rattle.clause.proofs.select.+select.Goals as goal

pub body-returns-then-left-r : goal.body-returns-then-left-r
unfolding shape
body-returns-then-left-r t c r = shut refl c.read-r.ensures c.if-left-r.true (c.run.ensures _ r)

pub body-overflow_sub-below : goal.body-overflow_sub-below
unfolding shape
body-overflow_sub-below t c = left_some _ _ c.if-left-r.false

pub body-one_select-q-requires : goal.body-one_select-q-requires
unfolding shape
body-one_select-q-requires t c =
    let l : 1 ≤ c.args.left = left_some _ _ c.if-left-r.false in
    (omega (arith, c.decreases, l), tt)

pub body-returns : goal.body-returns
unfolding shape
body-returns t c r = opened refl c.read-r.ensures c.if-left-r.false c.pass-q.ensures (c.one_select-q.ensures _ ▹ list_of (grammar.node (CompoundSelect ∷ [])) false c.list.ensures (λ q r o o' b h. search rules))

pub compound-returns-then-left-r : goal.compound-returns-then-left-r
unfolding shape
compound-returns-then-left-r t c r = shut refl c.read-r.ensures c.if-left-r.true (c.run.ensures _ r)

pub compound-overflow_sub-left : goal.compound-overflow_sub-left
unfolding shape
compound-overflow_sub-left t c = left_some _ _ c.if-left-r.false

pub compound-one_select-requires : goal.compound-one_select-requires
unfolding shape
compound-one_select-requires t c =
    let l : 1 ≤ c.args.left = left_some _ _ c.if-left-r.false in
    (omega (arith, c.decreases, l), tt)

pub compound-returns : goal.compound-returns
unfolding shape
compound-returns t c r = opened refl c.read-r.ensures c.if-left-r.false c.pass-q.ensures (c.run-q.ensures _ _ ▹ c.one_select.ensures _)

pub cte-returns-then-left-r : goal.cte-returns-then-left-r
unfolding shape
cte-returns-then-left-r t c r = shut refl c.read-r.ensures c.if-left-r.true (c.run.ensures _ r)

pub cte-overflow_sub-left : goal.cte-overflow_sub-left
unfolding shape
cte-overflow_sub-left t c = left_some _ _ c.if-left-r.false

pub cte-cte_body-requires : goal.cte-cte_body-requires
unfolding shape
cte-cte_body-requires t c =
    let l : 1 ≤ c.args.left = left_some _ _ c.if-left-r.false in
    (omega (arith, c.decreases, l), tt)

pub cte-shape_of-out : goal.cte-shape_of-out
unfolding shape
cte-shape_of-out t c = same {r = blank} (opened refl c.read-r.ensures c.if-left-r.false c.pass-q.ensures (c.run-q.ensures _ _ ▹ c.columns-q.ensures _ _ ▹ c.word-q.ensures _ _ _ ▹ c.cte_body.ensures _ refl))

pub cte-returns : goal.cte-returns
unfolding shape
cte-returns t c r = opened refl c.read-r.ensures c.if-left-r.false c.pass-q.ensures (c.run-q.ensures _ _ ▹ c.columns-q.ensures _ _ ▹ c.word-q.ensures _ _ _ ▹ c.cte_body.ensures _ refl)

pub cte_body-select-q-requires : goal.cte_body-select-q-requires
cte_body-select-q-requires t c = (omega (arith, c.decreases), tt)

pub cte_body-shape_of-out : goal.cte_body-shape_of-out
cte_body-shape_of-out t c = same (c.materialized-q.ensures _ _ (record { mark = 0; kind = 0; flags = c.args.flags; kids = 0; start = 0; len = 0 }) refl ▹ c.not_materialized-q.ensures _ _ (record { mark = 0; kind = 0; flags = c.args.flags; kids = 0; start = 0; len = 0 }) refl ▹ c.word-q.ensures _ _ _ ▹ c.select-q.ensures _ ▹ c.word.ensures _ _ _)

pub cte_body-returns : goal.cte_body-returns
cte_body-returns t c r h = c.materialized-q.ensures _ _ r h ▹ c.not_materialized-q.ensures _ _ r h ▹ c.word-q.ensures _ _ r ▹ c.select-q.ensures r ▹ c.word.ensures _ _ r

pub from_clause-returns-then-left-r : goal.from_clause-returns-then-left-r
unfolding shape
from_clause-returns-then-left-r t c r = shut refl c.read-r.ensures c.if-left-r.true (c.run.ensures _ r)

pub from_clause-overflow_sub-below : goal.from_clause-overflow_sub-below
unfolding shape
from_clause-overflow_sub-below t c = left_some _ _ c.if-left-r.false

pub from_clause-table-q-requires : goal.from_clause-table-q-requires
unfolding shape
from_clause-table-q-requires t c =
    let l : 1 ≤ c.args.left = left_some _ _ c.if-left-r.false in
    (omega (arith, c.decreases, l), tt)

pub from_clause-returns : goal.from_clause-returns
unfolding shape
from_clause-returns t c r = opened refl c.read-r.ensures c.if-left-r.false c.pass-q.ensures (c.table-q.ensures _ ▹ list_of (grammar.node (JoinedTable ∷ [])) false c.list.ensures (λ q r o o' b h. search rules))

pub from_given-returns-then-r-eq-NONE : goal.from_given-returns-then-r-eq-NONE
from_given-returns-then-r-eq-NONE t c r = given_none c.read-r.ensures c.if-r-eq-NONE.true c.pass.ensures

pub from_given-from_clause-requires : goal.from_given-from_clause-requires
from_given-from_clause-requires t c = (omega (arith, c.decreases), tt)

pub from_given-returns : goal.from_given-returns
from_given-returns t c r = given_some c.read-r.ensures c.if-r-eq-NONE.false (c.word-q.ensures _ _ r ▹ optional (c.from_clause.ensures r))

pub joined-returns-then-left-r : goal.joined-returns-then-left-r
unfolding shape
joined-returns-then-left-r t c r = shut refl c.read-r.ensures c.if-left-r.true (c.run.ensures _ r)

pub joined-overflow_sub-left : goal.joined-overflow_sub-left
unfolding shape
joined-overflow_sub-left t c = left_some _ _ c.if-left-r.false

pub joined-table-q-requires : goal.joined-table-q-requires
unfolding shape
joined-table-q-requires t c =
    let l : 1 ≤ c.args.left = left_some _ _ c.if-left-r.false in
    (omega (arith, c.decreases, l), tt)

pub joined-overflow_sub-left-2 : goal.joined-overflow_sub-left-2
unfolding shape
joined-overflow_sub-left-2 t c = left_some _ _ c.if-left-r.false

pub joined-returns : goal.joined-returns
unfolding shape
joined-returns t c r = opened refl c.read-r.ensures c.if-left-r.false c.pass-q.ensures (c.run-q.ensures _ _ ▹ c.table-q.ensures _ ▹ optional (c.join_constraint.ensures _))

pub one-from_given-q-requires : goal.one-from_given-q-requires
unfolding shape
one-from_given-q-requires t c = (omega (arith, c.decreases), tt)

pub one-shape_of-out : goal.one-shape_of-out
unfolding shape
one-shape_of-out t c = same (c.word-q.ensures _ _ blank ▹ optional (c.run-q.ensures _ blank) ▹ c.comma-q.ensures _ blank ▹ c.from_given-q.ensures blank ▹ c.filters.ensures _ blank)

pub one-returns : goal.one-returns
unfolding shape
one-returns t c r = c.word-q.ensures _ _ r ▹ optional (c.run-q.ensures _ r) ▹ c.comma-q.ensures _ r ▹ c.from_given-q.ensures r ▹ c.filters.ensures _ r

pub one_select-returns-then-left-eq0 : goal.one_select-returns-then-left-eq0
unfolding shape
one_select-returns-then-left-eq0 t c r = shallow c.read-r.ensures (c.run.ensures _ r) c.if-left-eq0.true refl

pub one_select-one-requires : goal.one_select-one-requires
unfolding shape
one_select-one-requires t c = (omega (arith, c.decreases, c.if-left-eq0.false), tt)

pub one_select-returns-then-r-eq-ONE_SELECT : goal.one_select-returns-then-r-eq-ONE_SELECT
unfolding shape
one_select-returns-then-r-eq-ONE_SELECT t c r = node_on c.read-r.ensures OneSelect c.if-r-eq-ONE_SELECT.true refl c.if-left-eq0.false c.pass-q.ensures (c.one.ensures _)

pub one_select-returns-then-r-eq-VALUES : goal.one_select-returns-then-r-eq-VALUES
unfolding shape
one_select-returns-then-r-eq-VALUES t c r = node_on c.read-r.ensures Values c.if-r-eq-VALUES.true refl c.if-left-eq0.false c.pass-q.ensures (c.values.ensures _ _)

pub one_select-returns : goal.one_select-returns
unfolding shape
one_select-returns t c r = other c.read-r.ensures (c.run-2.ensures _ r) (rw (ne_eqb _ OneSelect c.if-r-eq-ONE_SELECT.false, ne_eqb _ Values c.if-r-eq-VALUES.false))

pub select-returns-then-left-r : goal.select-returns-then-left-r
unfolding shape
select-returns-then-left-r t c r = shut refl c.read-r.ensures c.if-left-r.true (c.run.ensures _ r)

pub select-overflow_sub-left : goal.select-overflow_sub-left
unfolding shape
select-overflow_sub-left t c = left_some _ _ c.if-left-r.false

pub select-with_clause-q-requires : goal.select-with_clause-q-requires
unfolding shape
select-with_clause-q-requires t c =
    let l : 1 ≤ c.args.left = left_some _ _ c.if-left-r.false in
    (omega (arith, c.decreases, l), tt)

pub select-overflow_sub-left-2 : goal.select-overflow_sub-left-2
unfolding shape
select-overflow_sub-left-2 t c = left_some _ _ c.if-left-r.false

pub select-body-q-requires : goal.select-body-q-requires
unfolding shape
select-body-q-requires t c =
    let l : 1 ≤ c.args.left = left_some _ _ c.if-left-r.false in
    (omega (arith, c.decreases, l), tt)

pub select-shape_of-out : goal.select-shape_of-out
unfolding shape
select-shape_of-out t c = same {r = blank} (opened refl c.read-r.ensures c.if-left-r.false c.pass-q.ensures (optional (c.with_clause-q.ensures _) ▹ c.body-q.ensures _ ▹ optional (c.run-q.ensures _ _) ▹ optional (c.run-2.ensures _ _)))

pub select-returns : goal.select-returns
unfolding shape
select-returns t c r = opened refl c.read-r.ensures c.if-left-r.false c.pass-q.ensures (optional (c.with_clause-q.ensures _) ▹ c.body-q.ensures _ ▹ optional (c.run-q.ensures _ _) ▹ optional (c.run-2.ensures _ _))

pub sub-from_clause-q-requires : goal.sub-from_clause-q-requires
unfolding shape
sub-from_clause-q-requires t c = (omega (arith, c.decreases), tt)

pub sub-shape_of-out : goal.sub-shape_of-out
unfolding shape
sub-shape_of-out t c = same ((c.word-q.ensures _ _ blank ▹ c.from_clause-q.ensures blank ▹ c.word-q-2.ensures _ _ blank) ▹ optional (c.run.ensures _ blank))

pub sub-returns : goal.sub-returns
unfolding shape
sub-returns t c r = (c.word-q.ensures _ _ r ▹ c.from_clause-q.ensures r ▹ c.word-q-2.ensures _ _ r) ▹ optional (c.run.ensures _ r)

pub table-returns-then-left-eq0 : goal.table-returns-then-left-eq0
unfolding shape
table-returns-then-left-eq0 t c r = shallow c.read-r.ensures (c.run.ensures _ r) c.if-left-eq0.true refl

pub table-returns-then-r-eq-TABLE : goal.table-returns-then-r-eq-TABLE
unfolding shape
table-returns-then-r-eq-TABLE t c r = node_on c.read-r.ensures Table c.if-r-eq-TABLE.true refl c.if-left-eq0.false c.pass-q.ensures (c.table_name.ensures _ _)

pub table-returns-then-r-eq-TABLE_CALL : goal.table-returns-then-r-eq-TABLE_CALL
unfolding shape
table-returns-then-r-eq-TABLE_CALL t c r = node_on c.read-r.ensures TableCall c.if-r-eq-TABLE_CALL.true refl c.if-left-eq0.false c.pass-q.ensures (c.table_call.ensures _ _)

pub table-table_select-requires : goal.table-table_select-requires
unfolding shape
table-table_select-requires t c = (omega (arith, c.decreases, c.if-left-eq0.false), tt)

pub table-returns-then-r-eq-TABLE_SELECT : goal.table-returns-then-r-eq-TABLE_SELECT
unfolding shape
table-returns-then-r-eq-TABLE_SELECT t c r = node_on c.read-r.ensures TableSelect c.if-r-eq-TABLE_SELECT.true refl c.if-left-eq0.false c.pass-q.ensures (c.table_select.ensures _)

pub table-returns-then-r-eq-SUB : goal.table-returns-then-r-eq-SUB
unfolding shape
table-returns-then-r-eq-SUB t c r = node_on c.read-r.ensures Sub c.if-r-eq-SUB.true refl c.if-left-eq0.false c.pass-q.ensures (c.sub.ensures _)

pub table-returns : goal.table-returns
unfolding shape
table-returns t c r = other c.read-r.ensures (c.run-2.ensures _ r) (rw (ne_eqb _ Table c.if-r-eq-TABLE.false, ne_eqb _ TableCall c.if-r-eq-TABLE_CALL.false, ne_eqb _ TableSelect c.if-r-eq-TABLE_SELECT.false, ne_eqb _ Sub c.if-r-eq-SUB.false))

pub table_select-select-q-requires : goal.table_select-select-q-requires
unfolding shape
table_select-select-q-requires t c = (omega (arith, c.decreases), tt)

pub table_select-shape_of-out : goal.table_select-shape_of-out
unfolding shape
table_select-shape_of-out t c = same ((c.word-q.ensures _ _ blank ▹ c.select-q.ensures blank ▹ c.word-q-2.ensures _ _ blank) ▹ optional (c.run.ensures _ blank))

pub table_select-returns : goal.table_select-returns
unfolding shape
table_select-returns t c r = (c.word-q.ensures _ _ r ▹ c.select-q.ensures r ▹ c.word-q-2.ensures _ _ r) ▹ optional (c.run.ensures _ r)

pub with_clause-returns-then-left-r : goal.with_clause-returns-then-left-r
unfolding shape
with_clause-returns-then-left-r t c r = shut refl c.read-r.ensures c.if-left-r.true (c.run.ensures _ r)

pub with_clause-overflow_sub-below : goal.with_clause-overflow_sub-below
unfolding shape
with_clause-overflow_sub-below t c = left_some _ _ c.if-left-r.false

pub with_clause-returns : goal.with_clause-returns
unfolding shape
with_clause-returns t c r = opened refl c.read-r.ensures c.if-left-r.false c.pass-q.ensures (c.run-q.ensures _ _ ▹ list_of (grammar.node (CommonTableExpr ∷ [])) true c.list.ensures (λ q r o o' b h. search rules))
