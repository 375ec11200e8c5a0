-- `pen::append` meets its contract: one step of the stream, with the spelling that is looked up.
use Rattle.pen.specs.Laws.{appended}
use Rattle.pen.proofs.append.Goals as goal

pub returns : goal.returns
returns c = appended c.of.ensures c.append-s.ensures
