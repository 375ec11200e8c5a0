-- `append::unsound` meets its contract: the test is the definition's.
use mathlib.Core.Path.{refl}
use Rattle.append.specs.Append.{unsound}
use Rattle.append.proofs.unsound.Goals as goal

pub returns : goal.returns
unfolding unsound
returns c = refl
