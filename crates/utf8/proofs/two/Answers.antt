-- `utf8::two` meets its contract: each way through it is the definition's (`Ways`), by the contract of `tail`.
-- Assumes nothing.
use Rattle.utf8.specs.Scan.{pair, two}
use Rattle.utf8.proofs.Ways.{short, whole, wrong}
use Rattle.utf8.proofs.two.Goals as goal

pub returns-then-s-lt2 : goal.returns-then-s-lt2
unfolding two
returns-then-s-lt2 c = let s = c.args.s.now in short s 2 (pair s) c.if-s-lt2.true

pub returns-then-s-tail : goal.returns-then-s-tail
unfolding two
returns-then-s-tail c =
    let s = c.args.s.now in
    let enough = c.if-s-lt2.false in
    whole s 2 (pair s) enough (rw c.tail.ensures at c.if-s-tail.true)

pub returns : goal.returns
unfolding two
returns c =
    let s = c.args.s.now in
    let enough = c.if-s-lt2.false in
    wrong s 2 (pair s) enough (rw c.tail.ensures at c.if-s-tail.false)
