-- `parts::part` meets its contract: none of the part is there, some of it, or all.
use Rattle.parts.specs.Laws.{part_none, part_rest, part_whole}
use Rattle.parts.proofs.part.Goals as goal

pub returns-then-text-start : goal.returns-then-text-start
returns-then-text-start c =
    let at-if1 = c in
    let at-args = at-if1 in
    part_none at-args.args.text.now at-args.args.start at-args.args.len at-if1.if-text-start.true

pub returns-then-text-start-2 : goal.returns-then-text-start-2
returns-then-text-start-2 c =
    let at-if2 = c in
    let at-args = at-if2 in
    part_rest at-args.args.text.now at-args.args.start at-args.args.len at-if2.if-text-start-2.true

pub returns : goal.returns
returns c =
    let at-args = c in
    part_whole at-args.args.text.now at-args.args.start at-args.args.len
