-- `pen::behind` meets its contract: linear arithmetic.
use native.Mathlib.Omega.{arith}
use Rattle.pen.proofs.behind.Goals as goal

pub returns-then-index-n : goal.returns-then-index-n
returns-then-index-n c = omega arith

pub returns-else-index-n : goal.returns-else-index-n
returns-else-index-n c = omega arith
