-- `quick::value_alone` meets its contract: where a test fails nothing is done, and else the value is all that the token writes.
use mathlib.Core.Path.{sym, ◌∙◌}
use lib.ListN.{length}
use borrow.Author.Tests.{not-true, not-false}
use Rattle.utf8.specs.Plain.{few}
use Rattle.quick.specs.Laws.{nothing, not_alone, not_plain, few_short, value_comes}
use Rattle.quick.proofs.value_alone.Goals as goal

pub returns-then-not-alone : goal.returns-then-not-alone
returns-then-not-alone c =
    let at-alone = c in
    let start = at-alone in
    let value = start.args.value.now in
    nothing _ start.args.rec start.args.out.now _ _
    (not_alone (few value) start.args.rec (length start.args.out.now) _ value (sym at-alone.alone.ensures ∙ not-true _ c.if-not-alone.true-raw))

pub returns-then-not-plain_few : goal.returns-then-not-plain_few
returns-then-not-plain_few c =
    let at_plain = c in
    let start = at_plain in
    let value = start.args.value.now in
    nothing _ start.args.rec start.args.out.now _ _
    (not_plain (few value) start.args.rec (length start.args.out.now) _ value (sym at_plain.plain_few.ensures ∙ not-true _ c.if-not-plain_few.true-raw))

pub returns : goal.returns
returns c =
    let at-laid = c in
    let at-if2 = at-laid in
    let at_plain = at-if2 in
    let at-if1 = at_plain in
    let at-alone = at-if1 in
    let start = at-alone in
    let value = start.args.value.now in
    let plain = sym at_plain.plain_few.ensures ∙ not-false _ at-if2.if-not-plain_few.false-raw in
    value_comes (few value) start.args.rec start.args.out.now _ value _ _ (sym at-alone.alone.ensures ∙ not-false _ at-if1.if-not-alone.false-raw) plain (few_short value plain)
    at-laid.value_laid.ensures
