-- `quick::marked` meets its contract: the bit of the byte.
use mathlib.Core.Path.{refl}
use Rattle.quick.specs.Quick.{marked}
use Rattle.quick.proofs.marked.Goals as goal

pub returns : goal.returns
unfolding marked
returns c = refl
