-- `utf8::plain_many` meets its contract: there are many bytes, and all of them are tested. Assumes nothing.
use native.Mathlib.Omega.{arith}
use Rattle.utf8.specs.Plain.{of_many, not_many}
use Rattle.utf8.proofs.plain_many.Goals as goal

pub returns-then-n-le-BLOCK : goal.returns-then-n-le-BLOCK
returns-then-n-le-BLOCK c = not_many c.args.s.now (omega arith)

pub returns-then-n-lt-PAGE : goal.returns-then-n-lt-PAGE
returns-then-n-lt-PAGE c = of_many c.args.s.now _ (omega arith) c.plain_long.ensures

pub returns : goal.returns
returns c = of_many c.args.s.now _ (omega arith) c.plain_long-2.ensures
