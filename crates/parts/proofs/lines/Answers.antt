-- `parts::lines` is the list of RUNs with their lines' ends.
use Rattle.pen.specs.Pen.{source_of, input}
use Rattle.tokens.specs.Tokens.{means}
use Rattle.parts.specs.Runs.{ended}
use Rattle.parts.specs.Laws.{each_of}
use Rattle.parts.proofs.lines.Goals as goal

pub returns : goal.returns
unfolding means
returns c d r = record { puts = λ v. c.list.ensures v _ (each_of (λ i. ended (source_of v (input i)) d) (λ q r o o' b h. h.1 d v)) }
