-- `render::jobs::render_ample` meets its contract: ample room has room for the text.
use Rattle.std.specs.Prelude.{refl}
use Rattle.std.proofs.Common.{arith}
use Rattle.std.proofs.lemmas.Result.{err_from_is_err_and}
use Rattle.tree.proofs.Bounds.{admitted_short}
use Rattle.admitted.proofs.Ample.{ample}
use Rattle.render.specs.Laws.{refused, kept, measured_all, length_is, written}
use Rattle.render.proofs.jobs.render_ample.Goals as goal

pub returns-in_err-answer : goal.returns-in_err-answer
returns-in_err-answer c =
    let p = err_from_is_err_and c.from_residual.result c.from_residual.ensures.1 in
    rw (p.1, p.2) (kept _ (λ n e. cc) (refused _ (rw c.in_err-answer.was at c.requires.1)))

pub ample-requires : goal.ample-requires
ample-requires c =
    let checks = rw c.in_ok-answer.was at c.requires.1 in
    (admitted_short checks refl).0

pub returns-then-ample-out : goal.returns-then-ample-out
returns-then-ample-out c =
    let checks = rw c.in_ok-answer.was at c.requires.1 in
    let done = measured_all checks (λ k. omega (arith, c.type_inv.tree k)) _ c.write.ensures.counts in
    let most = ample checks refl c.args.mode.edition (λ k. omega (arith, c.type_inv.tree k)) in
    written _ done (omega (arith, length_is c.args.out.now done, c.ample.ensures, c.if-ample-out.true)) c.write.ensures.stores

pub returns : goal.returns
returns c = c.render_checked.ensures
