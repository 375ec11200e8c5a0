-- `tree::token_used` meets its contract: a TOKEN with no value uses no bytes, and one with a value has a part.
use Rattle.tree.specs.Laws.{bare_token, stray_bytes, value_off, value_sound}
use Rattle.tree.proofs.token_used.Goals as goal

pub returns-then-zeros : goal.returns-then-zeros
returns-then-zeros c =
    let at-args = c.args in
    let at_pre = c.requires in
    bare_token at-args.on.now.text.now at-args.r _ at_pre c.if-r-lt-PRESENT.true _ c.zeros.ensures c.if-zeros.true

pub returns-then-r-lt-PRESENT : goal.returns-then-r-lt-PRESENT
returns-then-r-lt-PRESENT c =
    let at-args = c.args in
    let at_pre = c.requires in
    stray_bytes at-args.on.now.text.now at-args.r _ at_pre c.if-r-lt-PRESENT.true _ c.zeros.ensures c.if-zeros.false

pub returns-then-not-part_inside : goal.returns-then-not-part_inside
returns-then-not-part_inside c =
    let at-args = c.args in
    let at_pre = c.requires in
    value_off at-args.on.now.text.now at-args.r _ at_pre c.if-r-lt-PRESENT.false _ c.part_inside.ensures c.if-not-part_inside.true-raw

pub returns : goal.returns
returns c =
    let at-args = c.args in
    let at_pre = c.requires in
    value_sound at-args.on.now.text.now at-args.r _ at_pre c.if-r-lt-PRESENT.false _ c.part_inside.ensures c.if-not-part_inside.false-raw
