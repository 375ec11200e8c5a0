-- `source::in_line` meets its contract: a newline ends the comment, and any other byte stays in it.
use Rattle.source.specs.Laws.{line_over, line_on}
use Rattle.source.proofs.in_line.Goals as goal

pub returns-then-b-eq-NEWLINE : goal.returns-then-b-eq-NEWLINE
returns-then-b-eq-NEWLINE c = λ s. rw c.if-b-eq-NEWLINE.true (line_over s)

pub returns-else-b-eq-NEWLINE : goal.returns-else-b-eq-NEWLINE
returns-else-b-eq-NEWLINE c = line_on _ c.if-b-eq-NEWLINE.false
