-- `tree::unpacked` meets its contract: it goes by the definition's tests.
use borrow.Author.Tests.{lt-ltb, le-ltb, ne_eqb}
use Rattle.tree.specs.Walk.{refused, unpacked}
use Rattle.tree.proofs.unpacked.Goals as goal

pub returns-then-w-lt-REFUSED : goal.returns-then-w-lt-REFUSED
unfolding unpacked
returns-then-w-lt-REFUSED c = rw (lt-ltb c.args.w refused c.if-w-lt-REFUSED.true)

pub returns-then-number-eq-MARK : goal.returns-then-number-eq-MARK
unfolding unpacked
returns-then-number-eq-MARK c = rw (le-ltb c.args.w refused c.if-w-lt-REFUSED.false, c.if-number-eq-MARK.true)

pub returns-then-number-eq-MISFIT : goal.returns-then-number-eq-MISFIT
unfolding unpacked
returns-then-number-eq-MISFIT c = rw (le-ltb c.args.w refused c.if-w-lt-REFUSED.false, c.if-number-eq-MISFIT.true)

pub returns-then-number-eq-OUTSIDE : goal.returns-then-number-eq-OUTSIDE
unfolding unpacked
returns-then-number-eq-OUTSIDE c = rw (le-ltb c.args.w refused c.if-w-lt-REFUSED.false, c.if-number-eq-OUTSIDE.true)

pub returns-then-number-eq-DEEP : goal.returns-then-number-eq-DEEP
unfolding unpacked
returns-then-number-eq-DEEP c = rw (le-ltb c.args.w refused c.if-w-lt-REFUSED.false, c.if-number-eq-DEEP.true)

pub returns : goal.returns
unfolding unpacked
returns c =
    rw (
      le-ltb c.args.w refused c.if-w-lt-REFUSED.false,
      ne_eqb _ 3 c.if-number-eq-MARK.false,
      ne_eqb _ 4 c.if-number-eq-MISFIT.false,
      ne_eqb _ 5 c.if-number-eq-OUTSIDE.false,
      ne_eqb _ 6 c.if-number-eq-DEEP.false,
    )
