-- `utf8::plain_start` meets its contract: blocks take up where the pages end. Assumes nothing.
use native.Mathlib.Omega.{arith}
use Rattle.utf8.specs.Plain.{behind}
use Rattle.utf8.proofs.plain_start.Goals as goal

pub returns : goal.returns
returns c =
    let at-pages = c in
    behind at-pages.args.s.now at-pages.pieces-i.result c.pieces.result 64 16 at-pages.pieces-i.ensures c.pieces.ensures

pub overflow_add-result : goal.overflow_add-result
overflow_add-result c = omega (arith, (returns c).0)
