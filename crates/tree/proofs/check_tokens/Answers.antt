-- `tree::check_tokens` meets its contract: along the TOKENs what is left from here is what was to be checked from the start, and
-- a TOKEN with no fault has no children.
use Rattle.std.specs.Prelude.{◌-◌, ◌+◌, ◌≡◌, refl}
use Rattle.std.proofs.Common.{arith}
use Rattle.std.proofs.lemmas.Result.{err_from_is_err_and}
use Rattle.record.specs.Record.{record_at}
use Rattle.tree.proofs.Walk.{met_past, met_there, met_fits, there}
use Rattle.tree.proofs.Steps.{token_childless, same_split, same_none, along_start, nothing_walked, row_end, row_refused, row_filled}
use Rattle.tree.proofs.check_tokens.Goals as goal

pub loop-token-init : goal.loop-token-init
loop-token-init c =
    let z : c.args.n - 0 ≡ c.args.n = omega arith in
    rw z (along_start _ _ _ _ c.requires.0)

-- a record that is past the end, one with a fault, and one that is fine
pub returns-then-count-next : goal.returns-then-count-next
returns-then-count-next c =
    row_refused c.args.on.now.tree.now c.args.on.now.text.now _ _ _ _ _ c.loop-token.invariant _ _ (same_split _ _ (omega arith)) (record_at c.args.on.now.tree.now c.loop-token.next) refl c.args.on.now.few _
    (met_past _ _ _ _ _ _ (rw (← c.count.ensures) c.if-count-next.true))

pub returns-in_err-token_fault : goal.returns-in_err-token_fault
returns-in_err-token_fault c =
    let p = err_from_is_err_and c.from_residual.result c.from_residual.ensures.1 in
    rw (p.1, p.2)
    (row_refused c.args.on.now.tree.now c.args.on.now.text.now _ _ _ _ _ c.loop-token.invariant _ _ (same_split _ _ (omega arith)) c.read.result c.read.ensures c.args.on.now.few _
    (met_there _ _ _ _ _ _ (rw (← c.count.ensures) c.if-count-next.false) _ c.in_err-token_fault.ensures))

pub loop-token-preserved : goal.loop-token-preserved
loop-token-preserved c =
    let m = met_there c.args.on.now.tree.now c.args.on.now.text.now c.read.result _ _ _ (rw (← c.count.ensures) c.if-count-next.false) _ c.in_ok-token_fault.ensures in
    let none = token_childless _ (met_fits _ _ _ _ _ _ m) in
    let z : c.args.n - (c.loop-token._token + 1) ≡ c.args.n - c.loop-token._token - 1 = omega arith in
    rw z
    (row_filled c.args.on.now.tree.now c.args.on.now.text.now _ _ _ _ _ c.loop-token.invariant _ _ (same_split _ _ (omega arith)) c.read.result c.read.ensures m c.requires.1 _
    (rw none (nothing_walked _ _ _ (omega (arith, there _ _ _ _ _ _ m)))))

pub returns : goal.returns
returns c = row_end c.args.on.now.tree.now _ _ _ _ _ _ c.loop-token.invariant (same_none _ _ (omega arith))
