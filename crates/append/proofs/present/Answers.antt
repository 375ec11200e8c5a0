-- `append::present` meets its contract: the definition's test.
use mathlib.Core.Path.{refl}
use Rattle.append.specs.Append.{present}
use Rattle.append.proofs.present.Goals as goal

pub returns : goal.returns
unfolding present
returns c = refl
