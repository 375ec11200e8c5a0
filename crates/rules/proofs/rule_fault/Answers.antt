-- `rules::rule_fault` meets its contract: it asks for a rule, whether it is in force, for the kind, and then of the part, which lies inside the text, whether it
-- keeps the rule.
use Rattle.std.specs.Prelude.{◌+◌, ◌-◌, ◌≡◌}
use Rattle.std.proofs.Common.{arith}
use Rattle.rules.specs.Rules.{rule_fault, not_in_force, no_text, part_ends, kept, not_kept}
use Rattle.rules.proofs.rule_fault.Goals as goal

pub returns-in_default : goal.returns-in_default
unfolding rule_fault
returns-in_default c = rw c.in_default.is

pub returns-then-not-in_force : goal.returns-then-not-in_force
returns-then-not-in_force c =
    rw c.in-Some.is (not_in_force c.args.mode c.args.text.now c.args.r c.args.index _ _ c.in_force.ensures c.if-not-in_force.true-raw)

pub returns-then-r-ne-TEXT : goal.returns-then-r-ne-TEXT
returns-then-r-ne-TEXT c =
    rw c.in-Some.is (no_text c.args.mode c.args.text.now c.args.r c.args.index _ _ c.in_force.ensures c.if-r-ne-TEXT.true)

pub slice_bounds-keeps-end : goal.slice_bounds-keeps-end
slice_bounds-keeps-end c = part_ends c.args.mode c.args.text.now c.args.r c.args.index c.if-r-ne-TEXT.false c.requires

pub returns-then-keeps : goal.returns-then-keeps
returns-then-keeps c =
    let z : c.args.r.start + c.args.r.len - c.args.r.start ≡ c.args.r.len = omega arith in
    rw c.in-Some.is
    (kept c.args.mode c.args.text.now c.args.r c.args.index _ _ c.in_force.ensures c.if-not-in_force.false-raw c.if-r-ne-TEXT.false _ (rw z at c.keeps.ensures) c.if-keeps.true)

pub returns : goal.returns
returns c =
    let z : c.args.r.start + c.args.r.len - c.args.r.start ≡ c.args.r.len = omega arith in
    rw (c.in-Some.is, c.refusal.ensures)
    (not_kept c.args.mode c.args.text.now c.args.r c.args.index _ _ c.in_force.ensures c.if-not-in_force.false-raw c.if-r-ne-TEXT.false _ (rw z at c.keeps.ensures) c.if-keeps.false)
