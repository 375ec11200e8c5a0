-- `kinyandoma_lexeme` meets its contract: the rest that `read` hands back is the text from the place on that its length tells.
use native.Mathlib.Omega.{arith}
use borrow.Author.Rules.{rules}
use Rattle.reader.proofs.Turns.{inside}
use Rattle.kinyandoma.specs.Lexemes.{crossed}
use Rattle.kinyandoma.proofs.lexemes.kinyandoma_lexeme.Goals as goal

pub overflow_sub-rest : goal.overflow_sub-rest
overflow_sub-rest c = omega (arith, inside _ _ _ _ c.read-behind.ensures)

pub returns : goal.returns
returns c = crossed _ _ _ _ c.read-behind.ensures
