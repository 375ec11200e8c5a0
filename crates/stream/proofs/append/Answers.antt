-- `stream::append` meets its contract: a value that is lent is the one that is written.
use Rattle.std.proofs.Common.{ap}
use Rattle.stream.specs.Sink.{value_of}
use Rattle.stream.proofs.append.Goals as goal

pub returns-in-Some : goal.returns-in-Some
returns-in-Some c = rw (ap value_of c.in-Some.is, c.valued.ensures)

pub returns-in-None : goal.returns-in-None
returns-in-None c = rw (ap value_of c.in-None.is, c.bare.ensures)
