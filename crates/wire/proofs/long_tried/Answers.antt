-- `wire::long_tried` meets its contract: a record that is not held is left to the refusals.
use mathlib.Core.Path.{sym, ◌∙◌}
use borrow.Author.Tests.{not-true, not-false}
use Rattle.quick.specs.Laws.{nothing}
use Rattle.wire.specs.Laws.{tried_not, tried}
use Rattle.wire.proofs.long_tried.Goals as goal

pub returns-then-not-held : goal.returns-then-not-held
returns-then-not-held c =
    let at_held = c in
    let start = at_held in
    nothing _ start.args.rec start.args.out.now _ _ (tried_not _ _ (sym at_held.held.ensures ∙ not-true _ c.if-not-held.true-raw))

pub returns : goal.returns
returns c =
    let at_long = c in
    let at-if1 = at_long in
    let at_held = at-if1 in
    tried _ _ _ _ _ _ _ _ (sym at_held.held.ensures ∙ not-false _ at-if1.if-not-held.false-raw) at_long.long_alone.ensures
