-- `render::jobs::answered` meets its contract: what the call says is in its fields.
use mathlib.Core.Path.{refl}
use Rattle.render.proofs.jobs.answered.Goals as goal

pub returns : goal.returns
returns c = refl
