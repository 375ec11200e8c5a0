-- `decimal::fill` meets its contract. The loop's invariant: the columns that are left, stored from `at` on, make the output what it has to be.
use native.Mathlib.Omega.{arith}
use mathlib.Core.Path.{◌∙◌}
use Rattle.decimal.specs.Laws.{length_some}
use Rattle.decimal.proofs.Turns.{fill_start, take_fits, fill_turn, fill_one, fill_last}
use Rattle.decimal.proofs.fill.Goals as goal

pub loop-at-init : goal.loop-at-init
loop-at-init c =
    let s = fill_start c.args.out.now c.args.first c.args.last c.args.n c.requires.0 in
    (omega arith, omega (arith, length_some c.args.n), s.0, s.1)

pub take-t-requires : goal.take-t-requires
take-t-requires c =
    let at-loop = c.loop-at in
    take_fits at-loop.out _ _ _ _ c.loop-at-test.true (omega arith) c.power.ensures at-loop.invariant.2

pub loop-at-preserved : goal.loop-at-preserved
loop-at-preserved c =
    let at-loop = c.loop-at in
    let at_test = c.loop-at-test in
    let s = fill_turn at-loop.out _ _ _ _ at_test.true (omega arith) c.power.ensures _ _ _ c.take-t.ensures c.glyph.ensures in
    (omega arith, omega arith, s.0, s.1 ∙ at-loop.invariant.3)

pub glyph-requires-2 : goal.glyph-requires-2
glyph-requires-2 c =
    let at-loop = c.loop-at in
    fill_one at-loop.out _ _ _ (omega arith) at-loop.invariant.2

pub returns : goal.returns
returns c =
    let at-loop = c.loop-at in
    fill_last _ _ _ _ (omega arith) at-loop.invariant.2 _ c.glyph-2.ensures ∙ at-loop.invariant.3
