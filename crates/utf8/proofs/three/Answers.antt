-- `utf8::three` meets its contract: each way through it is the definition's (`Ways`), by the contracts of `second` and `tail`.
-- Assumes nothing.
use Rattle.utf8.specs.Scan.{triple, three}
use Rattle.utf8.proofs.Ways.{short, whole, wrong}
use Rattle.utf8.proofs.three.Goals as goal

pub returns-then-s-lt3 : goal.returns-then-s-lt3
unfolding three
returns-then-s-lt3 c = let s = c.args.s.now in short s 3 (triple s) c.if-s-lt3.true

pub returns-then-second-tail : goal.returns-then-second-tail
unfolding three
returns-then-second-tail c =
    let s = c.args.s.now in
    let enough = c.if-s-lt3.false in
    whole s 3 (triple s) enough (rw (c.second.ensures, c.tail.ensures) at c.if-second-tail.true)

pub returns : goal.returns
unfolding three
returns c =
    let s = c.args.s.now in
    let enough = c.if-s-lt3.false in
    wrong s 3 (triple s) enough (rw (c.second.ensures, c.tail.ensures) at c.if-second-tail.false)
