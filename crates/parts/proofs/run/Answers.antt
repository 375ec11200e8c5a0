-- `parts::run` writes what `run_from` writes for the pen's fields.
use Rattle.parts.proofs.run.Goals as goal

pub returns : goal.returns
returns c = c.run_from.ensures
