-- `tree::range_fits` meets its contract: only one place is narrow.
use Rattle.tree.specs.Laws.{range_small, range_wide}
use Rattle.tree.proofs.range_fits.Goals as goal

pub returns-then-place-eq-SMALL : goal.returns-then-place-eq-SMALL
returns-then-place-eq-SMALL c = range_small _ _ c.if-place-eq-SMALL.true

pub returns : goal.returns
returns c = range_wide _ _ c.requires c.if-place-eq-SMALL.false
