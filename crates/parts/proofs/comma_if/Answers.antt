-- `parts::comma_if` writes the comma, or nothing.
use Rattle.pen.specs.Rows.{nothing}
use Rattle.parts.proofs.comma_if.Goals as goal

pub returns-then-on : goal.returns-then-on
returns-then-on c =
    let at-append = c in
    let at-if1 = at-append in
    rw at-if1.if-on.true at-append.append.ensures

pub returns : goal.returns
returns c = rw c.if-on.false nothing
