-- `pen::word` writes its word.
use Rattle.pen.specs.Laws.{a_word}
use Rattle.pen.proofs.word.Goals as goal

pub returns : goal.returns
returns c e d r = a_word c.append.ensures
