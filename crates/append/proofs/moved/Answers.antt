-- `append::moved` meets its contract, by that of `newlines`: no sum leaves the count, since line and column were within it and a value is within what was added.
use native.Mathlib.Omega.{arith}
use borrow.Author.Tests.{eq-eqb, ne_eqb}
use Rattle.position.specs.Laws.{lines_length}
use Rattle.append.specs.Steps.{moved_to}
use Rattle.append.proofs.moved.Goals as goal

pub overflow_add-line : goal.overflow_add-line
overflow_add-line c =
    let start = c in
    omega (arith, start.requires, c.newlines-found.ensures.0, lines_length start.args.value.now)

pub returns-then-found-eq0 : goal.returns-then-found-eq0
unfolding moved_to
returns-then-found-eq0 c =
    let at-if1 = c in
    let found = at-if1.newlines-found in
    rw (← found.ensures.0, eq-eqb found.result.lines 0 at-if1.if-found-eq0.true)

pub returns : goal.returns
unfolding moved_to
returns c =
    let found = c.newlines-found in
    rw (← found.ensures.0, ne_eqb found.result.lines 0 c.if-found-eq0.false, found.ensures.1)
