-- `parts::first_flag` is the bit.
use Rattle.tokens.specs.Tokens.{flagged}
use native.Mathlib.Nat.{div-one}
use Rattle.parts.proofs.first_flag.Goals as goal

pub returns : goal.returns
unfolding flagged
returns c r h = rw (← h, div-one)
