-- `parts::third_flag` is the bit.
use Rattle.tokens.specs.Tokens.{flagged}
use Rattle.parts.proofs.third_flag.Goals as goal

pub returns : goal.returns
unfolding flagged
returns c r h = rw (← h)
