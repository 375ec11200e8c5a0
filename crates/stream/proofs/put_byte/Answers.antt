-- `stream::put_byte` meets its contract: the byte is stored, and counted.
use Rattle.stream.specs.Sink.{pour}
use Rattle.stream.proofs.put_byte.Goals as goal

pub returns : goal.returns
unfolding pour
returns c = cc
