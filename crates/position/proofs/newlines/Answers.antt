-- `position::newlines` meets its contract. The loop's invariant: what was found is that of the bytes so far.
use mathlib.Core.Path.{refl}
use native.Mathlib.Omega.{arith}
use lib.Seq.{take_all}
use Rattle.position.specs.Position.{lines, column}
use Rattle.position.proofs.Laws.{lines_more, column_more, lines_within, column_within}
use Rattle.position.proofs.newlines.Goals as goal

pub loop-b-init : goal.loop-b-init
unfolding lines column
loop-b-init c = (refl, refl)

pub overflow_add-lines : goal.overflow_add-lines
overflow_add-lines c = omega (arith, lines_within c.args.s.now c.loop-b.b-index c.loop-b-test.true)

pub next-behind-requires : goal.next-behind-requires
next-behind-requires c = omega (arith, column_within c.args.s.now c.loop-b.b-index c.loop-b-test.true)

pub loop-b-preserved : goal.loop-b-preserved
loop-b-preserved c =
    let loop = c.loop-b in
    let s = c.args.s.now in
    let some = c.loop-b-test.true in (
      rw (lines_more s loop.b-index some, c.newline-lines.ensures, loop.invariant.0),
      rw (column_more s loop.b-index some, c.next-behind.ensures, loop.invariant.1),
    )

pub returns : goal.returns
returns c =
    let loop = c.loop-b in
    let all = take_all loop.b-index c.args.s.now c.loop-b-test.false in
    (rw all at loop.invariant.0, rw all at loop.invariant.1)
