-- `tree::check_records` meets its contract: the walk of the root comes to the scan of all records.
use Rattle.std.proofs.Common.{sym}
use Rattle.std.proofs.lemmas.Result.{err_from_is_err_and}
use Rattle.tree.proofs.Whole.{refused, left_over, all_filled}
use Rattle.tree.proofs.check_records.Goals as goal

pub returns-in_err-end : goal.returns-in_err-end
returns-in_err-end c =
    let p = err_from_is_err_and c.from_residual.result c.from_residual.ensures.1 in
    rw (p.1, p.2) (refused c.args.on.now.tree.now c.args.on.now.text.now _ (rw (sym c.unpacked.ensures, c.in_err-end.was) at c.row_below.ensures))

pub returns-then-end-count : goal.returns-then-end-count
returns-then-end-count c =
    left_over c.args.on.now.tree.now c.args.on.now.text.now _ (rw (sym c.unpacked.ensures, c.in_ok-end.was) at c.row_below.ensures) (rw (← c.count.ensures) c.if-end-count.true)

pub returns : goal.returns
returns c =
    all_filled c.args.on.now.tree.now c.args.on.now.text.now _ (rw (sym c.unpacked.ensures, c.in_ok-end.was) at c.row_below.ensures) (rw (← c.count.ensures) c.if-end-count.false)
