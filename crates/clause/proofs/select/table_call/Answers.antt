-- `select::table_call` writes its entry, a step a call.
use Rattle.pen.specs.Laws.{◌▹◌}
use Rattle.pen.specs.Places.{optional}
use Rattle.grammar.specs.Grammar.{shape}
use Rattle.clause.proofs.select.table_call.Goals as goal

pub returns : goal.returns
unfolding shape
returns c d r =
    let at-run2 = c in
    let at-in-parens = at-run2 in
    let at-run = at-in-parens in
    at-run.run-q.ensures d r
    ▹ at-in-parens.in_parens-q.ensures d r
    ▹ optional (at-run2.run.ensures d r)
