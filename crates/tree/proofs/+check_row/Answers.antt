-- `tree::check_row` meets its contract: it calls itself on child records, and the depth that is left falls at each step down. Along a row goes a
-- loop: what is left of it from here leads to the same answer as all of it from the start (`Along`). A record is refused, or it has no
-- children, or they are the TOKENs of a RUN, or a row below.
use Rattle.std.specs.Prelude.{◌≡◌, ◌+◌, ◌-◌, ◌<◌}
use Rattle.std.proofs.Common.{arith, sym}
use Rattle.std.proofs.lemmas.Result.{err_from_is_err_and}
use Rattle.tree.proofs.Walk.{crosses, there, met_fits, met_left}
use Rattle.tree.proofs.Steps.{childless, run_holds, row_holds, row_held, along_start, nothing_walked, row_end, row_refused, row_stops, row_filled, along_split, held_split, along_none}
use Rattle.tree.proofs.+check_row.Goals.{check_row-then-r-ne0+then-r-eq-RUN+in_ok-next, check_row-then-r-ne0+else-r-eq-RUN+in_ok-next-2, check_row-else-r-ne0}
use Rattle.tree.proofs.+check_row.Goals as goal

pub check_row-loop-child-init : goal.check_row-loop-child-init
check_row-loop-child-init t c =
    let z : c.args.n - 0 ≡ c.args.n = omega arith in
    rw z (c.requires.1.1, along_start _ _ _ _ c.requires.0)

pub check_row-refused_at-requires : goal.check_row-refused_at-requires
check_row-refused_at-requires t c =
    let some : 0 < c.args.n - c.loop-child._child = omega arith in
    rw c.first-place.ensures (held_split _ _ some c.loop-child.invariant.0).0

pub check_row-returns-in_err-refused_at : goal.check_row-returns-in_err-refused_at
check_row-returns-in_err-refused_at t c =
    let p = err_from_is_err_and c.from_residual.result c.from_residual.ensures.1 in
    rw (p.1, p.2)
    (row_refused c.args.on.now.tree.now c.args.on.now.text.now _ _ _ _ _ c.loop-child.invariant.1 _ _ (along_split _ _ (omega arith)) c.read-r.result c.read-r.ensures c.args.on.now.few _
    (rw c.first-place.ensures at c.in_err-refused_at.ensures))

pub check_row-overflow_sub-left : goal.check_row-overflow_sub-left
check_row-overflow_sub-left t c = met_left _ _ _ _ _ _ c.in_ok-refused_at.ensures

pub check_row-check_tokens-requires : goal.check_row-check_tokens-requires
check_row-check_tokens-requires t c = (omega (arith, there _ _ _ _ _ _ c.in_ok-refused_at.ensures), omega (arith, c.requires.1.0))

pub check_row-returns-in_err-next : goal.check_row-returns-in_err-next
check_row-returns-in_err-next t c =
    let p = err_from_is_err_and c.from_residual-in_err-next.result c.from_residual-in_err-next.ensures.1 in
    let m = rw c.first-place.ensures at c.in_ok-refused_at.ensures in
    rw (p.1, p.2)
    (row_stops c.args.on.now.tree.now c.args.on.now.text.now _ _ _ _ _ c.loop-child.invariant.1 _ _ (along_split _ _ (omega arith)) c.read-r.result c.read-r.ensures m c.requires.1.0 _
    (rw (run_holds _ c.read-r.result c.if-r-eq-RUN.true) c.in_err-next.ensures))

pub check_row-overflow_sub-left-else-r-eq-RUN : goal.check_row-overflow_sub-left-else-r-eq-RUN
check_row-overflow_sub-left-else-r-eq-RUN t c = met_left _ _ _ _ _ _ c.in_ok-refused_at.ensures

pub check_row-row_below-requires : goal.check_row-row_below-requires
check_row-row_below-requires t c =
    let m = rw c.first-place.ensures at c.in_ok-refused_at.ensures in
    let some : 0 < c.args.n - c.loop-child._child = omega arith in
    let held = (held_split _ _ some c.loop-child.invariant.0).0 in
    let l = met_left _ _ _ _ _ _ m in (
      omega arith,
      (
        omega (arith, there _ _ _ _ _ _ m),
        (
          omega (arith, c.requires.1.0),
          rw (c.row-below.ensures, c.first-place.ensures) (row_held _ c.read-r.result held (met_fits _ _ _ _ _ _ m) c.if-r-eq-RUN.false),
        ),
      ),
    )

pub check_row-returns-in_err-next-2 : goal.check_row-returns-in_err-next-2
check_row-returns-in_err-next-2 t c =
    let p = err_from_is_err_and c.from_residual-in_err-next-2.result c.from_residual-in_err-next-2.ensures.1 in
    let m = rw c.first-place.ensures at c.in_ok-refused_at.ensures in
    let some : 0 < c.args.n - c.loop-child._child = omega arith in
    let held = (held_split _ _ some c.loop-child.invariant.0).0 in
    rw (p.1, p.2)
    (row_stops c.args.on.now.tree.now c.args.on.now.text.now _ _ _ _ _ c.loop-child.invariant.1 _ _ (along_split _ _ (omega arith)) c.read-r.result c.read-r.ensures m c.requires.1.0 _
    (rw (row_holds _ c.read-r.result held (met_fits _ _ _ _ _ _ m) c.if-r-eq-RUN.false) (rw (c.row-below.ensures, c.first-place.ensures, sym c.unpacked.ensures, c.in_err-next-2.was) at c.row_below.ensures)))

pub check_row-overflow_add-next : goal.check_row-overflow_add-next
check_row-overflow_add-next t c = omega (arith, there _ _ _ _ _ _ c.in_ok-refused_at.ensures, c.args.on.now.few)

pub check_row-loop-child-preserved : goal.check_row-loop-child-preserved
check_row-loop-child-preserved t c =
    let m = rw c.first-place.ensures at c.in_ok-refused_at.ensures in
    let some : 0 < c.args.n - c.loop-child._child = omega arith in
    let held = held_split _ _ some c.loop-child.invariant.0 in
    let fit = met_fits _ _ _ _ _ _ m in
    let z : c.args.n - (c.loop-child._child + 1) ≡ c.args.n - c.loop-child._child - 1 = omega arith in
    rw (c.turned-places.ensures, z) (
      held.1,
      row_filled c.args.on.now.tree.now c.args.on.now.text.now _ _ _ _ _ c.loop-child.invariant.1 _ _ (along_split _ _ some) c.read-r.result c.read-r.ensures m c.requires.1.0 _
          (elim c.if-r-ne0.branch [
            | check_row-then-r-ne0+then-r-eq-RUN+in_ok-next w ↦ rw (w.next-is, run_holds _ c.read-r.result w.if-r-eq-RUN.true) w.in_ok-next.ensures
            | check_row-then-r-ne0+else-r-eq-RUN+in_ok-next-2 w ↦
                rw (w.next-is, row_holds _ c.read-r.result held.0 fit w.if-r-eq-RUN.false) (rw (w.row-below.ensures, c.first-place.ensures, sym w.unpacked.ensures, w.in_ok-next-2.was) at w.row_below.ensures)
            | check_row-else-r-ne0 w ↦
                rw (w.next-is, childless _ c.read-r.result fit w.if-r-ne0.false) (nothing_walked _ _ _ (omega (arith, there _ _ _ _ _ _ m)))
          ]),
    )

pub check_row-returns : goal.check_row-returns
check_row-returns t c = row_end c.args.on.now.tree.now _ _ _ _ _ _ c.loop-child.invariant.1 (along_none _ _ (omega arith))

pub row_below-packed-requires : goal.row_below-packed-requires
row_below-packed-requires t c = crosses _ c.args.on.now.few c.check_row.ensures

pub row_below-returns : goal.row_below-returns
row_below-returns t c = rw c.packed.ensures c.check_row.ensures
