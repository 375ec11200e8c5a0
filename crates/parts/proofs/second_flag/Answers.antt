-- `parts::second_flag` is the bit.
use Rattle.tokens.specs.Tokens.{flagged}
use Rattle.parts.proofs.second_flag.Goals as goal

pub returns : goal.returns
unfolding flagged
returns c r h = rw (← h)
