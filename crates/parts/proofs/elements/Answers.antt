-- `parts::elements` writes a row: what is left of it from here is what was to be written at the start.
use mathlib.Core.Path.{refl, ◌∙◌}
use Rattle.std.proofs.Math.Nat.{sub-zero}
use Rattle.tokens.specs.Tokens.{comma}
use Rattle.pen.specs.Rows.{row_next, row_end}
use Rattle.parts.specs.Laws.{before_first, before_next}
use Rattle.parts.proofs.elements.Goals as goal

pub loop-i-init : goal.loop-i-init
loop-i-init g c = (c.requires, λ f h. rw (before_first c.args.commas comma, sub-zero) refl)

pub loop-i-preserved : goal.loop-i-preserved
loop-i-preserved g c =
    let at_element = c in
    let at_comma_if = at_element in
    let at_test = at_comma_if in
    let at-loop = at_test in
    (c.requires, λ f h. rw (before_next c.args.commas at-loop.loop-i.i) (row_next f _ _ _ _ at_test.loop-i-test.true at_comma_if.comma_if-q.ensures (h _ _ _ _ _ refl at_element.element-q.ensures) ∙ at-loop.loop-i.invariant.1 f h))

pub returns : goal.returns
returns g c f h =
    let at-loop = c in
    row_end f _ _ _ _ c.loop-i-test.false (at-loop.loop-i.invariant.1 f h)
