-- `pen::line` writes the token with a newline.
use Rattle.pen.specs.Laws.{a_line}
use Rattle.pen.proofs.line.Goals as goal

pub returns : goal.returns
returns c e d r = a_line c.append.ensures
