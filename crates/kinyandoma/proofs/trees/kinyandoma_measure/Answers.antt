-- `kinyandoma::trees::kinyandoma_measure` meets its contract: no options are 01 as it is.
use Rattle.mode.specs.Options.{none_asked}
use borrow.Author.Rules.{rules}
use Rattle.kinyandoma.proofs.trees.kinyandoma_measure.Goals as goal

pub returns : goal.returns
returns c = rw none_asked at c.kinyandoma_measure_with.ensures
