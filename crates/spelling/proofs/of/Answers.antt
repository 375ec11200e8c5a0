-- `spelling::of` meets its contract: it is the part of the pool by the row of the number.
use borrow.Author.Rules.{rules}
use Rattle.spelling.specs.Laws.{spelled_by_row}
use Rattle.spelling.proofs.of.Goals as goal

pub returns : goal.returns
returns c = spelled_by_row _ _ _ _ c.row.ensures c.cut.ensures
