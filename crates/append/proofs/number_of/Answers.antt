-- `append::number_of` meets its contract: the definition's remainder.
use mathlib.Core.Path.{refl}
use Rattle.append.specs.Append.{number_of}
use Rattle.append.proofs.number_of.Goals as goal

pub returns : goal.returns
unfolding number_of
returns c = refl
