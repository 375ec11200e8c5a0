-- `tree::malformed` meets its contract: the definition's test.
use mathlib.Core.Path.{refl}
use Rattle.tree.specs.Check.{malformed}
use Rattle.tree.proofs.malformed.Goals as goal

pub returns : goal.returns
unfolding malformed
returns c = refl
