-- `quick::long_alone` meets its contract: where a test fails nothing is done, and else the value is all that the token writes.
use native.Mathlib.Omega.{arith}
use mathlib.Core.Path.{sym, ◌∙◌}
use mathlib.Core.Bool.{not}
use lib.ListN.{length}
use borrow.Author.Tests.{not-true, not-false}
use Rattle.utf8.specs.Plain.{few}
use Rattle.quick.specs.Laws.{nothing, not_alone, not_plain, over_long, value_comes}
use Rattle.quick.proofs.long_alone.Goals as goal

pub returns-then-value-gt-LONGEST : goal.returns-then-value-gt-LONGEST
returns-then-value-gt-LONGEST c =
    let start = c in
    let value = start.args.value.now in
    nothing _ start.args.rec start.args.out.now _ _
    (over_long (not (few value)) start.args.rec (length start.args.out.now) _ value (omega (arith, c.if-value-gt-LONGEST.true)))

pub returns-then-not-alone : goal.returns-then-not-alone
returns-then-not-alone c =
    let at-alone = c in
    let start = at-alone in
    let value = start.args.value.now in
    nothing _ start.args.rec start.args.out.now _ _
    (not_alone (not (few value)) start.args.rec (length start.args.out.now) _ value (sym at-alone.alone.ensures ∙ not-true _ c.if-not-alone.true-raw))

pub returns-then-not-plain_many : goal.returns-then-not-plain_many
returns-then-not-plain_many c =
    let at_plain = c in
    let start = at_plain in
    let value = start.args.value.now in
    nothing _ start.args.rec start.args.out.now _ _
    (not_plain (not (few value)) start.args.rec (length start.args.out.now) _ value (sym at_plain.plain_many.ensures ∙ not-true _ c.if-not-plain_many.true-raw))

pub returns : goal.returns
returns c =
    let at-laid = c in
    let at-if3 = at-laid in
    let at_plain = at-if3 in
    let at-if2 = at_plain in
    let at-alone = at-if2 in
    let at-if1 = at-alone in
    let start = at-if1 in
    let value = start.args.value.now in
    value_comes (not (few value)) start.args.rec start.args.out.now _ value _ _ (sym at-alone.alone.ensures ∙ not-false _ at-if2.if-not-alone.false-raw)
    (sym at_plain.plain_many.ensures ∙ not-false _ at-if3.if-not-plain_many.false-raw) (omega (arith, at-if1.if-value-gt-LONGEST.false)) at-laid.value_laid.ensures
