-- `render::measure` meets its contract: the check's refusal, or the length, which is short.
use Rattle.std.proofs.Common.{arith}
use Rattle.std.proofs.lemmas.Result.{err_from_is_err_and}
use Rattle.render.specs.Laws.{refused, measured_all}
use Rattle.render.proofs.measure.Goals as goal

pub returns-in_err-check : goal.returns-in_err-check
returns-in_err-check c =
    let p = err_from_is_err_and c.from_residual.result c.from_residual.ensures.1 in
    rw (p.1, p.2) (refused _ c.in_err-check.ensures)

pub returns : goal.returns
returns c = measured_all c.in_ok-check.ensures (λ k. omega (arith, c.type_inv.tree k)) _ c.write.ensures.counts
