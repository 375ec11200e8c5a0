-- `cmd` writes its entry, a step a call.
use mathlib.Core.Path.{refl}
use Rattle.pen.specs.Laws.{◌▹◌, same}
use Rattle.grammar.specs.Grammar.{shape}
use Rattle.cmd.proofs.cmd.Goals as goal

pub returns : goal.returns
unfolding shape
returns c r h =
    let at-word = c in
    let at-stmt = at-word in
    let at-explain-json = at-stmt in
    let at-explain-query-plan = at-explain-json in
    let at-explain = at-explain-query-plan in
    at-explain.explain-q.ensures _ _ r h ▹ at-explain-query-plan.explain_query_plan-q.ensures _ _ r h ▹ at-explain-json.explain_json-q.ensures _ _ r h ▹ at-stmt.stmt-q.ensures r ▹ at-word.word.ensures _ _ r

pub shape_of-out : goal.shape_of-out
shape_of-out c = same {r = record { mark = 0; kind = 0; flags = c.args.flags; kids = 0; start = 0; len = 0 }} (returns c _ refl)
