-- `utf8::plain_three` meets its contract: of up to three bytes each is the first, the middle or the last. Assumes nothing.
use native.Mathlib.Omega.{arith}
use Rattle.utf8.specs.Plain.{none_plain, three_plain}
use Rattle.utf8.proofs.plain_three.Goals as goal

pub returns-then-n-eq0 : goal.returns-then-n-eq0
returns-then-n-eq0 c = none_plain c.args.s.now c.if-n-eq0.true

pub returns : goal.returns
returns c =
    let middle = c in
    let first = middle in
    let at-if1 = first in
    let start = at-if1 in
    let some = at-if1.if-n-eq0.false in
    rw (first.plain_byte.ensures, middle.plain_byte-2.ensures, c.plain_byte-3.ensures)
    (three_plain start.args.s.now (omega arith) start.requires)
