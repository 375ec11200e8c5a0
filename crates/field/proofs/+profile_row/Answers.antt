-- `field::profile_row` meets its contract: it calls itself on child records, and the depth that is left falls at each step down. Along a row goes a
-- loop: what is left of it from here leads to the same first record that breaks the profile as all of it from the start (`Going`). A record breaks
-- it, or it has nothing below it, or what is below it is walked.
use Rattle.std.specs.Prelude.{◌+◌, ◌-◌, ◌<◌, ◌≤◌, ◌≡◌}
use Rattle.std.proofs.Common.{arith}
use Rattle.std.proofs.lemmas.Result.{err_from_is_err_and}
use Rattle.field.specs.Walk.{all_met}
use Rattle.field.proofs.Walk.{start, turn_there, turn_led, turn_breaks, turn_left, turn_found, turn_on, turn_childless}
use Rattle.field.proofs.+profile_row.Goals.{then-r-ne0+in_ok-next, else-r-ne0}
use Rattle.field.proofs.+profile_row.Goals as goal

pub loop-child-init : goal.loop-child-init
loop-child-init t c =
    let z : c.args.n - 0 ≡ c.args.n = omega arith in
    rw z (λ cs e. record { classes = cs; coded = e; goes = start _ _ _ })

pub breaks-requires : goal.breaks-requires
breaks-requires t c = c.read-r.ensures

pub returns-then-breaks : goal.returns-then-breaks
returns-then-breaks t c =
    let some : 0 < c.args.n - c.loop-child._child = omega arith in
    λ cs e. turn_breaks (c.loop-child.invariant cs e) some _ c.breaks.ensures c.if-breaks.true

pub overflow_add-next : goal.overflow_add-next
overflow_add-next t c =
    let led = c.requires.1 in
    let some : 0 < c.args.n - c.loop-child._child = omega arith in
    let there = turn_there (c.loop-child.invariant led.classes led.coded) some led.rest led.sound in
    omega (arith, there.0, there.1)

pub overflow_sub-left : goal.overflow_sub-left
overflow_sub-left t c =
    let led = c.requires.1 in
    let some : 0 < c.args.n - c.loop-child._child = omega arith in
    omega (arith, turn_left (c.loop-child.invariant led.classes led.coded) some _ c.breaks.ensures c.if-breaks.false)

pub profile_row-requires : goal.profile_row-requires
profile_row-requires t c =
    let led = c.requires.1 in
    let some : 0 < c.args.n - c.loop-child._child = omega arith in
    let going = c.loop-child.invariant led.classes led.coded in
    let l = turn_left going some _ c.breaks.ensures c.if-breaks.false in (
      omega (arith, c.decreases),
      (omega (arith, c.requires.0), rw (c.nodes_below.ensures, c.read-r.ensures) (turn_led going some led.rest led.sound l c.requires.0)),
    )

pub returns-in_err-next : goal.returns-in_err-next
returns-in_err-next t c =
    let some : 0 < c.args.n - c.loop-child._child = omega arith in
    let q = err_from_is_err_and c.from_residual.result c.from_residual.ensures.1 in
    rw (q.1, q.2)
    (λ cs e.
    turn_found (c.loop-child.invariant cs e) some _ c.breaks.ensures c.if-breaks.false c.requires.0 _ (rw (c.nodes_below.ensures, c.read-r.ensures) at c.in_err-next.ensures))

pub loop-child-preserved : goal.loop-child-preserved
loop-child-preserved t c =
    let some : 0 < c.args.n - c.loop-child._child = omega arith in
    let left_over : c.args.n - (c.loop-child._child + 1) ≡ c.args.n - c.loop-child._child - 1 = omega arith in
    let be = c.breaks.ensures in
    let z = c.if-breaks.false in
    rw (c.turned-row.ensures, left_over)
    (λ cs e.
    elim c.if-r-ne0.branch [
      | then-r-ne0+in_ok-next w ↦
          rw w.next-is (turn_on (c.loop-child.invariant cs e) some _ be z c.requires.0 _ (rw (w.nodes_below.ensures, c.read-r.ensures) at w.in_ok-next.ensures))
      | else-r-ne0 w ↦ rw w.next-is (turn_childless (c.loop-child.invariant cs e) some _ be z (rw c.read-r.ensures at w.if-r-ne0.false))
    ])

pub returns : goal.returns
returns t c =
    let over : c.args.n - c.loop-child._child ≤ 0 = omega arith in
    λ cs e. all_met _ _ _ _ _ _ _ over (c.loop-child.invariant cs e)
