-- `parts::run_from` writes the tokens of a RUN.
use Rattle.grammar.specs.Slots.{allowed}
use borrow.Author.Tests.{ne_eqb}
use Rattle.pen.specs.Places.{not_placed, run_on}
use Rattle.parts.proofs.run_from.Goals as goal

pub returns-then-r-ne-RUN : goal.returns-then-r-ne-RUN
unfolding allowed
returns-then-r-ne-RUN c d r =
    let at-pass = c in
    let at_read = at-pass in
    not_placed at_read.read-r.ensures (rw (ne_eqb _ _ c.if-r-ne-RUN.true)) at-pass.pass-q.ensures

pub returns : goal.returns
returns c d r =
    let at-tokens = c in
    let at-if1 = at-tokens in
    let at-pass = at-if1 in
    let at_read = at-pass in
    run_on at_read.read-r.ensures at-if1.if-r-ne-RUN.false at-pass.pass-q.ensures at-tokens.tokens.ensures
