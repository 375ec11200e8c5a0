-- `tree::check_told` meets its contract: each return is the first refusal that fits, or what the records come to.
use Rattle.std.proofs.Common.{◌∙◌, sym}
use Rattle.std.proofs.lemmas.Result.{err_from_is_err_and}
use borrow.Author.Tests.{not-false, not-true}
use Rattle.tree.specs.Told.{is_malformed, too_long, ill, begun_inside, looked_at}
use Rattle.tree.proofs.Whole.{short_count}
use Rattle.tree.proofs.check_told.Goals as goal

pub returns-then-malformed : goal.returns-then-malformed
returns-then-malformed c = is_malformed _ _ _ c.malformed.ensures _ c.if-malformed.true

pub returns-then-text-gt-LONGEST : goal.returns-then-text-gt-LONGEST
returns-then-text-gt-LONGEST c = too_long _ _ _ c.malformed.ensures c.if-malformed.false _ c.if-text-gt-LONGEST.true

pub returns-in_err-told : goal.returns-in_err-told
returns-in_err-told c =
    let p = err_from_is_err_and c.from_residual.result c.from_residual.ensures.1 in
    rw (p.1, p.2, c.in_err-told.was) (ill c.args.tree.now c.args.text.now _ c.malformed.ensures c.if-malformed.false c.if-text-gt-LONGEST.false _)

pub returns-then-not-boundary : goal.returns-then-not-boundary
returns-then-not-boundary c =
    rw c.in_ok-told.was
    (begun_inside c.args.tree.now c.args.text.now _ c.malformed.ensures c.if-malformed.false c.if-text-gt-LONGEST.false _ c.boundary.ensures (not-true _ c.if-not-boundary.true-raw))

pub invariant_of-check_records : goal.invariant_of-check_records
invariant_of-check_records c =
    record { few = short_count _ _ c.malformed.ensures c.if-malformed.false; begun = sym c.boundary.ensures ∙ not-false _ c.if-not-boundary.false-raw }

pub returns : goal.returns
returns c =
    rw c.in_ok-told.was
    (looked_at c.args.tree.now c.args.text.now _ c.malformed.ensures c.if-malformed.false c.if-text-gt-LONGEST.false _ c.boundary.ensures _ (not-false _ c.if-not-boundary.false-raw) c.check_records.ensures)
