-- `utf8::plain_byte` meets its contract: it is the definition. Assumes nothing.
use mathlib.Core.Path.{refl}
use Rattle.utf8.specs.Plain.{plain}
use Rattle.utf8.proofs.plain_byte.Goals as goal

pub returns : goal.returns
unfolding plain
returns c = refl
