-- `select::table_name` writes its entry, a step a call.
use Rattle.pen.specs.Laws.{◌▹◌}
use Rattle.pen.specs.Places.{optional}
use Rattle.grammar.specs.Grammar.{shape}
use Rattle.clause.proofs.select.table_name.Goals as goal

pub returns : goal.returns
unfolding shape
returns c d r =
    let at-run3 = c in
    let at-run2 = at-run3 in
    let at-run = at-run2 in
    at-run.run-q.ensures d r
    ▹ optional (at-run2.run-q-2.ensures d r)
    ▹ optional (at-run3.run.ensures d r)
