-- `utf8::plain_few` meets its contract: there are few bytes, and all of them are tested. Assumes nothing.
use native.Mathlib.Omega.{arith}
use Rattle.utf8.specs.Plain.{of_few, not_few}
use Rattle.utf8.proofs.plain_few.Goals as goal

pub returns-then-n-lt-FOUR : goal.returns-then-n-lt-FOUR
returns-then-n-lt-FOUR c = of_few c.args.s.now _ (omega arith) c.plain_three.ensures

pub returns-then-n-lt-EIGHT : goal.returns-then-n-lt-EIGHT
returns-then-n-lt-EIGHT c = of_few c.args.s.now _ (omega arith) c.plain_ends.ensures

pub returns-then-n-le-BLOCK : goal.returns-then-n-le-BLOCK
returns-then-n-le-BLOCK c = of_few c.args.s.now _ (omega arith) c.plain_ends-then-n-le-BLOCK.ensures

pub returns : goal.returns
returns c = not_few c.args.s.now (omega arith)
