-- `pen::said` appends TK_ID with the text.
use Rattle.pen.proofs.said.Goals as goal

pub returns : goal.returns
returns c = c.append.ensures
