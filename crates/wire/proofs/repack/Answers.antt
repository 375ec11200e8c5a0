-- `wire::repack` meets its contract: bytes that were added pack the record anew, and a refusal leaves it.
use Rattle.wire.proofs.repack.Goals as goal

pub returns-in-Ok : goal.returns-in-Ok
returns-in-Ok c = rw c.in-Ok.is c.pack.ensures
