-- `explain_query_plan` writes its words where the flags say so.
use Rattle.grammar.specs.Grammar.{query_plan}
use Rattle.pen.specs.Places.{is_so, is_not}
use Rattle.cmd.proofs.explain_query_plan.Goals as goal

pub returns-then-flags-eq-QUERY_PLAN : goal.returns-then-flags-eq-QUERY_PLAN
returns-then-flags-eq-QUERY_PLAN c e d r h =
    let at-query-plan = c in
    let at-if1 = at-query-plan in
    is_so query_plan h at-if1.if-flags-eq-QUERY_PLAN.true (at-query-plan.query_plan.ensures e d r)

pub returns : goal.returns
returns c e d r h = is_not query_plan h c.if-flags-eq-QUERY_PLAN.false
