-- `parts::tokens` writes a row of TOKENs: what is left of it from here is what was to be written at the start.
use mathlib.Core.Path.{refl, ◌∙◌}
use mathlib.Core.List.{[]}
use Rattle.mode.specs.declared.Edition.TheVariants.{Crate}
use Rattle.pen.specs.Laws.{puts_length}
use Rattle.pen.specs.Rows.{nothing, row_next, row_end}
use Rattle.std.proofs.Math.Nat.{sub-zero}
use Rattle.parts.proofs.tokens.Goals as goal

pub loop-preserved : goal.loop-preserved
loop-preserved c v =
    let at-token = c in
    let at-loop-test = at-token in
    let at-loop = at-loop-test in
    row_next _ [] [] _ _ at-loop-test.loop-test.true nothing (at-token.token-t.ensures v) ∙ at-loop.loop.invariant v

pub returns : goal.returns
returns c v =
    let at-loop = c in
    row_end _ [] [] _ _ c.loop-test.false (at-loop.loop.invariant v)

pub loop-init : goal.loop-init
loop-init c v = rw sub-zero refl

pub shape_of-out : goal.shape_of-out
shape_of-out c = puts_length (returns c Crate)
