-- `replay::append_token` meets its contract: bytes that were added had room, by `append`'s own contract.
use native.Mathlib.Omega.{arith}
use Rattle.replay.specs.Laws.{had_room}
use Rattle.replay.proofs.append_token.Goals as goal

pub returns-in-Ok : goal.returns-in-Ok
returns-in-Ok c = omega (arith, had_room _ _ _ _ _ _ _ _ c.lent-next.ensures c.in-Ok.is)
