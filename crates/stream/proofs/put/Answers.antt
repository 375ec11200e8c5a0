-- `stream::put` meets its contract: the bytes are stored, and counted.
use Rattle.stream.specs.Sink.{pour}
use Rattle.stream.proofs.put.Goals as goal

pub returns : goal.returns
unfolding pour
returns c = cc
