-- `tree::inside` meets its contract: a text part, and none.
use Rattle.tree.specs.Laws.{no_part, with_part}
use Rattle.tree.proofs.inside.Goals as goal

pub returns-then-has_part : goal.returns-then-has_part
returns-then-has_part c =
    let at-args = c.args in
    with_part at-args.r at-args.on.now.text.now _ c.has_part.ensures c.if-has_part.true _ c.part_inside.ensures

pub returns : goal.returns
returns c =
    let at-args = c.args in
    no_part at-args.r at-args.on.now.text.now _ c.has_part.ensures c.if-has_part.false
