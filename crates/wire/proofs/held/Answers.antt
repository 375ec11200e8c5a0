-- `wire::held` meets its contract: the test is the definition's.
use mathlib.Core.Path.{refl}
use Rattle.wire.specs.Wire.{held}
use Rattle.wire.proofs.held.Goals as goal

pub returns : goal.returns
unfolding held
returns c = refl
