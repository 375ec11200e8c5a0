-- `tree::zeros` meets its contract: it is what it tests.
use mathlib.Core.Path.{refl}
use Rattle.tree.specs.Walk.{zeros}
use Rattle.tree.proofs.zeros.Goals as goal

pub returns : goal.returns
unfolding zeros
returns c = refl
