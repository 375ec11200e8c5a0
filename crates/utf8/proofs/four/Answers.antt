-- `utf8::four` meets its contract: each way through it is the definition's (`Ways`), by the contracts of `second` and `tail`.
-- Assumes nothing.
use Rattle.utf8.specs.Scan.{quadruple, four}
use Rattle.utf8.proofs.Ways.{short, whole, wrong}
use Rattle.utf8.proofs.four.Goals as goal

pub returns-then-s-lt4 : goal.returns-then-s-lt4
unfolding four
returns-then-s-lt4 c = let s = c.args.s.now in short s 4 (quadruple s) c.if-s-lt4.true

pub returns-then-s-second : goal.returns-then-s-second
unfolding four
returns-then-s-second c =
    let s = c.args.s.now in
    let enough = c.if-s-lt4.false in
    whole s 4 (quadruple s) enough
    (rw (c.second.ensures, c.tail.ensures, c.tail-2.ensures) at c.if-s-second.true)

pub returns : goal.returns
unfolding four
returns c =
    let s = c.args.s.now in
    let enough = c.if-s-lt4.false in
    wrong s 4 (quadruple s) enough
    (rw (c.second.ensures, c.tail.ensures, c.tail-2.ensures) at c.if-s-second.false)
