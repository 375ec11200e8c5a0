-- `pen::valued` meets its contract: a value that is laid is all that a token of its kind writes, and every other goes by `append`.
use mathlib.Core.Path.{refl, sym, ◌∙◌}
use borrow.Author.Tests.{not-false}
use Rattle.pen.specs.Laws.{appended, says_from}
use Rattle.pen.specs.Quick.{not_led, led_value}
use Rattle.pen.proofs.valued.Goals as goal

pub returns-then-not-alone : goal.returns-then-not-alone
returns-then-not-alone c = c.append.ensures

pub returns-in-None : goal.returns-in-None
returns-in-None c =
    let at-append = c in
    let at_told = at-append in
    let at-lay = at_told in
    let start = at-lay in
    says_from (not_led start.args.p.sink start.args.out.now _ _ _ at-lay.lay.ensures at_told.in-None.is) at-append.append-in-None.ensures

pub returns-in-Some : goal.returns-in-Some
returns-in-Some c =
    let at_told = c in
    let at-lay = at_told in
    let at-if1 = at-lay in
    let at-alone = at-if1 in
    let start = at-alone in
    appended refl
    (led_value start.args.p.sink start.args.out.now _ _ _ at-lay.lay.ensures start.args.from.now.pool.now _ _ _ (sym at-alone.alone.ensures ∙ not-false _ at-if1.if-not-alone.false-raw)
    c.all_blank.ensures at_told.in-Some.is)
