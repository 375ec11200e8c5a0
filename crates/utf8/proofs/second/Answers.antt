-- `utf8::second` meets its contract, by those of `low` and `high`.
-- Assumes nothing.
use Rattle.utf8.proofs.second.Goals as goal

pub returns : goal.returns
returns c = rw (c.low.ensures, c.high.ensures)
