-- `white::first_part` meets its contract: the first part stands behind the White_Space that the text begins with, unless that is all of it.
use Rattle.white.proofs.Count.{no_first, is_first}
use Rattle.white.proofs.first_part.Goals as goal

pub returns-then-s-start : goal.returns-then-s-start
returns-then-s-start c = no_first _ _ c.skip_white-start.ensures c.if-s-start.true

pub returns : goal.returns
returns c = is_first _ _ _ c.skip_white-start.ensures c.skip_part-end.ensures
