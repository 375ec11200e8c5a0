-- `parts::tuples` is the list, with commas, of LISTs in brackets.
use Rattle.record.specs.Laws as records
use Rattle.pen.specs.Pen.{source_of, input}
use Rattle.tokens.specs.Tokens.{means}
use Rattle.parts.specs.Runs.{tuple}
use Rattle.parts.specs.Laws.{each_of}
use Rattle.parts.proofs.tuples.Goals as goal

pub returns : goal.returns
unfolding means
returns c d r = record { puts = λ v. c.list.ensures v _ (each_of (λ i. tuple (source_of v (input i)) d) (λ q r o o' b h. (h.1 d records.nothing).puts v)) }
