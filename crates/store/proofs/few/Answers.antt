-- `store::few` meets its contract: there is none, or the first, the middle and the last are all.
use native.Mathlib.Omega.{arith}
use lib.ListN.{length-set}
use Rattle.store.specs.Copies.{no_byte, three_bytes}
use Rattle.store.proofs.few.Goals as goal

pub returns-then-n-eq0 : goal.returns-then-n-eq0
returns-then-n-eq0 c = let start = c.args in no_byte start.out.now start.v.now start.at c.if-n-eq0.true

pub bounds-out-at-2 : goal.bounds-out-at-2
bounds-out-at-2 c = rw length-set (omega (arith, c.if-n-eq0.false))

pub bounds-out-at-3 : goal.bounds-out-at-3
bounds-out-at-3 c = rw (length-set, length-set) (omega (arith, c.if-n-eq0.false))

pub returns : goal.returns
returns c =
    let start = c in
    three_bytes start.args.out.now start.args.v.now start.args.at c.if-n-eq0.false start.requires.0
