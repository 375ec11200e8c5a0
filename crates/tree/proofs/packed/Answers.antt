-- `tree::packed` meets its contract: an index is small, and so are a refusal's number and place.
use Rattle.tree.proofs.Walk.{unpacked_index, unpacked_refusal}
use Rattle.tree.proofs.packed.Goals as goal

pub returns-in-Ok : goal.returns-in-Ok
returns-in-Ok c = rw c.in-Ok.is (unpacked_index _ (rw c.in-Ok.is at c.requires))

pub returns-in-Err : goal.returns-in-Err
returns-in-Err c = rw (c.in-Err.is, c.number.ensures, c.place.ensures) (unpacked_refusal _ (rw c.in-Err.is at c.requires))
