-- `explain_json` writes its words where the flags say so.
use Rattle.pen.specs.Laws.{◌▹◌}
use Rattle.pen.specs.Places.{is_so, is_not}
use Rattle.grammar.specs.Grammar.{json}
use Rattle.tokens.specs.Tokens.{means}
use Rattle.cmd.proofs.explain_json.Goals as goal

pub returns-then-flags-eq-JSON : goal.returns-then-flags-eq-JSON
unfolding means
returns-then-flags-eq-JSON c e d r h =
    let at-format-json = c in
    let at-query-plan = at-format-json in
    let at-if1 = at-query-plan in
    is_so json h at-if1.if-flags-eq-JSON.true (record { puts = (at-query-plan.query_plan-q.ensures e d r ▹ at-format-json.format_json.ensures e d r).puts })

pub returns : goal.returns
unfolding means
returns c e d r h = is_not json h c.if-flags-eq-JSON.false
