-- `corners::dashes` looks at each two bytes: whether the rest has dashes is whether the text has.
use borrow.Author.Rules.{rules}
use native.Mathlib.Omega.{arith}
use mathlib.Core.Path.{refl, sym, ◌∙◌}
use Rattle.corners.specs.Laws.{dashes_found, dashes_next, dashes_end}
use Rattle.corners.proofs.dashes.Goals as goal

pub loop-i-init : goal.loop-i-init
loop-i-init c = (omega arith, refl)

pub returns-then-text-i : goal.returns-then-text-i
returns-then-text-i c =
    let at-loop = c in
    sym (dashes_found _ _ at-loop.loop-i.invariant.0 (search rules) c.if-text-i.true) ∙ at-loop.loop-i.invariant.1

pub loop-i-preserved : goal.loop-i-preserved
loop-i-preserved c =
    let at-loop = c in
    (omega arith, dashes_next _ _ at-loop.loop-i.invariant.0 (search rules) c.if-text-i.false ∙ at-loop.loop-i.invariant.1)

pub returns : goal.returns
returns c =
    let at-loop = c in
    sym (dashes_end _ _ at-loop.loop-i.invariant.0 (search rules)) ∙ at-loop.loop-i.invariant.1
