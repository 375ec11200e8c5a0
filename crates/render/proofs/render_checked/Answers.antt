-- `render::render_checked` meets its contract: what the check refuses, no room for the length, or the text, which is drafted first.
use Rattle.std.proofs.Common.{arith}
use Rattle.std.proofs.lemmas.Result.{err_from_is_err_and}
use Rattle.render.specs.Laws.{refused, measured_all, drafted, kept, no_room, length_is, written}
use Rattle.render.proofs.render_checked.Goals as goal

pub returns-in_err-answer : goal.returns-in_err-answer
returns-in_err-answer c =
    let p = err_from_is_err_and c.from_residual.result c.from_residual.ensures.1 in
    rw (p.1, p.2) (kept _ (λ n e. cc) (refused _ (rw c.in_err-answer.was at c.requires.1)))

pub returns-then-out-length : goal.returns-then-out-length
returns-then-out-length c =
    no_room _ (measured_all (rw c.in_ok-answer.was at c.requires.1) (λ k. omega (arith, c.type_inv.tree k)) _ c.write-length.ensures.counts) c.if-out-length.true

pub fair_copy-requires : goal.fair_copy-requires
fair_copy-requires c =
    let done = measured_all (rw c.in_ok-answer.was at c.requires.1) (λ k. omega (arith, c.type_inv.tree k)) _ c.write-length.ensures.counts in
    (c.requires.0, (length_is c.args.out.now done, (c.if-out-length.false, drafted _ _ _ _ _ c.write-length.ensures.stores)))

pub returns : goal.returns
returns c =
    let done = measured_all (rw c.in_ok-answer.was at c.requires.1) (λ k. omega (arith, c.type_inv.tree k)) _ c.write-length.ensures.counts in
    written _ done c.if-out-length.false c.fair_copy.ensures
