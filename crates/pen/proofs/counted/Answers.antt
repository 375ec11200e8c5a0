-- `pen::counted` meets its contract: the bytes, and before them the space where there is to be one.
use mathlib.Core.Path.{◌∙◌}
use Rattle.pen.specs.Quick.{counts_on, counts_led}
use Rattle.pen.proofs.counted.Goals as goal

pub returns-then-s : goal.returns-then-s
returns-then-s c =
    let at-if1 = c in
    c.plus.ensures ∙ counts_on at-if1.args.s _ at-if1.if-s.true

pub returns : goal.returns
returns c =
    let at_first = c in
    let at-if1 = at_first in
    c.plus-3.ensures ∙ counts_led at-if1.args.s _ _ at-if1.if-s.false at_first.plus-2.ensures
