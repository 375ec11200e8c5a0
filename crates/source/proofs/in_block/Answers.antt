-- `source::in_block` meets its contract: a star is left to be read with the byte behind it; any other byte is read alone.
use Rattle.source.specs.Laws.{block_on}
use Rattle.source.proofs.in_block.Goals as goal

pub returns-then-b-eq-STAR : goal.returns-then-b-eq-STAR
returns-then-b-eq-STAR c = λ s. rw c.if-b-eq-STAR.true

pub returns-else-b-eq-STAR : goal.returns-else-b-eq-STAR
returns-else-b-eq-STAR c = block_on _ c.if-b-eq-STAR.false
