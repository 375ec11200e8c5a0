-- `tree::part_inside` meets its contract: a part that ends past the text, and both ends of one that does not.
use Rattle.tree.specs.Laws.{past_text, starts_within, a_part}
use Rattle.tree.proofs.part_inside.Goals as goal

pub returns-then-on-end : goal.returns-then-on-end
returns-then-on-end c =
    let at-args = c.args in
    past_text at-args.r at-args.on.now.text.now c.if-on-end.true

pub returns-then-not-boundary : goal.returns-then-not-boundary
returns-then-not-boundary c =
    let at-args = c.args in
    starts_within at-args.r at-args.on.now.text.now c.if-on-end.false _ c.boundary.ensures c.if-not-boundary.true-raw

pub returns : goal.returns
returns c =
    let at-args = c.args in
    let at-if1 = c.if-on-end in
    a_part at-args.r at-args.on.now.text.now at-if1.false _ c.boundary.ensures c.if-not-boundary.false-raw _ c.boundary-2.ensures
