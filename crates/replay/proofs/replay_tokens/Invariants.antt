-- `replay::replay_tokens` meets its contract: each token leaves the bytes within the text.
use Rattle.replay.specs.Case.{Within}
use Rattle.replay.proofs.replay_tokens.Given as goal

abbrev pub invariant-loop : goal.invariant-loop
invariant-loop l = Within l.case
