-- `render::jobs::one` meets its contract: it is outside the tree buffer, or the single call on the room that is left.
use Rattle.std.specs.Prelude.{◌≡◌, ◌+◌, ◌-◌, ◌≤◌, length, drop}
use Rattle.std.proofs.Common.{arith, sym, ◌∙◌, rules, length-drop}
use lib.ListN.{length-take}
use Rattle.stream.specs.Sink.{most}
use Rattle.tree.specs.Told.{told_checks}
use Rattle.render.specs.JobsLaws.{is_beyond, is_within, called, inside_ends}
use Rattle.render.proofs.JobsLaws.{written_fits}
use Rattle.render.proofs.jobs.one.Goals as goal

pub returns-then-outside : goal.returns-then-outside
returns-then-outside c = rw c.answered.ensures (is_beyond (sym c.outside.ensures ∙ c.if-outside.true))

pub overflow_add-end : goal.overflow_add-end
overflow_add-end c =
    let size : length c.args.of.now.trees.now ≤ most = search rules in
    record { fits = omega (arith, inside_ends c.args.of.now.trees.now c.args.job.now (sym c.outside.ensures ∙ c.if-outside.false)) }

pub slice_bounds-tree-end : goal.slice_bounds-tree-end
slice_bounds-tree-end c = inside_ends c.args.of.now.trees.now c.args.job.now (sym c.outside.ensures ∙ c.if-outside.false)

pub render_ample-outcome-requires : goal.render_ample-outcome-requires
render_ample-outcome-requires c = (c.requires.0, told_checks c.args.of.now.told c.requires.1.0 c.check_told-answer.ensures)

pub behind-requires : goal.behind-requires
behind-requires c =
    let o = c.render_ample-outcome in
    let size : length c.args.out.now ≤ most = search (rules, c.well_formed) in
    omega (arith, c.requires.1.1, written_fits o.result o.ensures, length-take (length c.args.out.now - c.args.at) (drop c.args.at c.args.out.now), length-drop c.args.at c.args.out.now)

pub returns : goal.returns
returns c =
    let job = c.args.job.now in
    let o = c.render_ample-outcome in
    let z : job.tree_start + job.tree_len - job.tree_start ≡ job.tree_len = omega arith in
    is_within (sym c.outside.ensures ∙ c.if-outside.false)
    (called c.args.out.now c.args.at o.result _ c.requires.1.1 (rw (c.of-mode.ensures, z) at o.ensures) (rw (c.number.ensures, c.place.ensures) at c.answered-2.ensures, c.behind.ensures))
