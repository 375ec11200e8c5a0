-- `parts::said_clause` passes over NONE.
use Rattle.parts.specs.Laws.{said_none, said_some}
use Rattle.parts.proofs.said_clause.Goals as goal

pub returns-then-r-eq-NONE : goal.returns-then-r-eq-NONE
returns-then-r-eq-NONE c =
    let at-if1 = c in
    let at_read = at-if1 in
    let at-args = at_read in
    said_none at-args.args.from.now.text.now at_read.read-r.ensures at-if1.if-r-eq-NONE.true c.pass.ensures

pub returns : goal.returns
returns c =
    let at-run = c in
    let at-said = at-run in
    let at-if1 = at-said in
    let at_read = at-if1 in
    let at-args = at_read in
    said_some at-args.args.from.now.text.now at_read.read-r.ensures at-if1.if-r-eq-NONE.false at-said.said-q.ensures at-run.run.ensures
