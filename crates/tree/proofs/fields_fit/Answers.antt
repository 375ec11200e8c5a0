-- `tree::fields_fit` meets its contract: bytes that are zero, a NUMBER, and else what has a text part.
use mathlib.Core.Path.{sym, ◌∙◌}
use Rattle.tree.specs.Laws.{zeros_fit, number_fits, part_fits}
use Rattle.tree.proofs.fields_fit.Goals as goal

pub returns-then-zeros : goal.returns-then-zeros
returns-then-zeros c = zeros_fit c.args.r (sym c.zeros.ensures ∙ c.if-zeros.true)

pub returns-then-r-eq-NUMBER : goal.returns-then-r-eq-NUMBER
returns-then-r-eq-NUMBER c =
    let at-args = c.args in
    number_fits at-args.r c.if-r-eq-NUMBER.true

pub returns : goal.returns
returns c =
    let at-args = c.args in
    let at-zeros = c.zeros in
    let at-if1 = c.if-zeros in
    part_fits at-args.r (sym at-zeros.ensures ∙ at-if1.false) c.if-r-eq-NUMBER.false _ c.has_part.ensures
