-- `store::many` meets its contract. The loop's invariant: the first i bytes are stored; the last sixteen reach back to those.
use Prim.Native.Nat.{◌+◌, ◌-◌}
use native.Mathlib.Omega.{arith}
use mathlib.Core.Path.{refl}
use lib.ListN.{length}
use Rattle.store.specs.Copies.{next, ends}
use Rattle.store.proofs.many.Goals.{else-loop-i-test, then-loop-i-test+else-last-i-gt16}
use Rattle.store.proofs.many.Goals as goal

pub loop-i-init : goal.loop-i-init
loop-i-init c = (omega arith, refl)

pub loop-i-preserved : goal.loop-i-preserved
loop-i-preserved c =
    let loop = c.loop-i in
    let start = c.args in
    let less = c.loop-i-test.true in
    (omega (arith, less), rw (c.piece.ensures, loop.invariant.1) (next start.out.now start.v.now start.at loop.i 16 loop.invariant.0))

pub returns : goal.returns
returns c =
    let loop = c.loop-i in
    let start = c.args in
    let v = start.v.now in
    let l = start.out.now in
    elim c.loop-i-test.branch [
      | else-loop-i-test w ↦
          rw (c.piece-2.ensures, w.out-is, loop.invariant.1)
          (ends l v start.at loop.i (length v - 16) 16 (omega arith) (omega (arith, w.loop-i-test.false)))
      | then-loop-i-test+else-last-i-gt16 w ↦
          let before = rw (w.piece.ensures, loop.invariant.1) at w.out-is in
          rw (c.piece-2.ensures, before, next l v start.at loop.i 16 loop.invariant.0)
          (ends l v start.at (loop.i + 16) (length v - 16) 16 (omega arith) (omega arith))
    ]
