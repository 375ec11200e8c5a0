-- `reader::closing_end` meets its contract. The loop's invariant: where the quotation ends is the same from the start and from `i` on.
use native.Mathlib.Omega.{arith}
use mathlib.Core.Path.{sym, ◌∙◌}
use Rattle.std.proofs.Common.{tests}
use borrow.Author.Rules.{rules}
use Rattle.reader.specs.Laws.{closing_once, closing_at_end, closing_never}
use Rattle.reader.proofs.Laws.{closing_twice}
use Rattle.reader.proofs.Closes.{no_quote, closing_far}
use Rattle.reader.proofs.closing_end.Goals.{else-i-text-via-then-i-text+else-text-i-2, else-i-text-via-else-i-text}
use Rattle.reader.proofs.closing_end.Goals as goal

pub loop-i-preserved-then-text-i : goal.loop-i-preserved-then-text-i
loop-i-preserved-then-text-i c =
    let loop = c.loop-i in
    let no = c.long_end-i.ensures (no_quote c.args.quote) (λ b r k. search (rules, tests)) in
    let far = closing_far _ _ loop.i _ c.loop-i-test.true c.if-text-i.true no in
    (far.1.0, loop.invariant.1 ∙ far.1.1)

pub loop-i-smaller-then-text-i : goal.loop-i-smaller-then-text-i
loop-i-smaller-then-text-i c =
    let more = c.loop-i-test.true in
    let no = c.long_end-i.ensures (no_quote c.args.quote) (λ b r k. search (rules, tests)) in
    let far = closing_far _ _ c.loop-i.i _ more c.if-text-i.true no in
    omega (arith, more, far.0)

pub loop-i-preserved : goal.loop-i-preserved
loop-i-preserved c =
    let loop = c.loop-i in
    let more = c.if-i-text.true in
    (omega arith, loop.invariant.1 ∙ closing_twice _ _ loop.i more c.if-text-i.false c.if-text-i-2.true)

pub returns-else-i-text : goal.returns-else-i-text
returns-else-i-text c =
    let loop = c.loop-i in
    let inside = c.loop-i-test.true in
    let quoted = c.if-text-i.false in
    elim c.else-i-text.branch [
      | else-i-text-via-then-i-text+else-text-i-2 w ↦
          sym (loop.invariant.1 ∙ closing_once _ _ loop.i w.if-i-text.true quoted w.if-text-i-2.false)
      | else-i-text-via-else-i-text w ↦ sym (loop.invariant.1 ∙ closing_at_end _ _ loop.i inside w.if-i-text.false quoted)
    ]

pub returns : goal.returns
returns c = let loop = c.loop-i in sym (loop.invariant.1 ∙ closing_never _ _ loop.i c.loop-i-test.false)
