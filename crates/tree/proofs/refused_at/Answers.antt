-- `tree::refused_at` meets its contract: there is no record, or it has the fault that is found, or none.
use Rattle.tree.proofs.Walk.{met_past, met_there}
use Rattle.tree.proofs.refused_at.Goals as goal

pub returns-then-count-index : goal.returns-then-count-index
returns-then-count-index c = met_past c.args.on.now.tree.now c.args.on.now.text.now c.args.r _ _ _ (rw (← c.count.ensures) c.if-count-index.true)

pub returns : goal.returns
returns c = met_there c.args.on.now.tree.now c.args.on.now.text.now c.args.r _ _ _ (rw (← c.count.ensures) c.if-count-index.false) _ c.first_fault.ensures
