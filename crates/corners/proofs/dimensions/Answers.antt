-- `corners::dimensions` writes so many pairs of brackets, 255 at most.
use Rattle.grammar.specs.Kind.{NUMBER}
use Rattle.tokens.specs.Tokens.{means}
use Rattle.parts.specs.Laws.{of_other}
use Rattle.corners.specs.Laws.{some_pairs}
use Rattle.corners.proofs.dimensions.Goals as goal

pub returns-then-r-ne-NUMBER : goal.returns-then-r-ne-NUMBER
unfolding means
returns-then-r-ne-NUMBER c x d r =
    let at-pass = c in
    let at_read = at-pass in
    record { puts = of_other x NUMBER at_read.read-r.ensures at-pass.pass-q.ensures _ c.if-r-ne-NUMBER.true }

pub returns : goal.returns
returns c x d r =
    let at-pairs = c in
    let at_min = at-pairs in
    let at-if1 = at_min in
    let at-pass = at-if1 in
    let at_read = at-pass in
    some_pairs x at_read.read-r.ensures at-pass.pass-q.ensures at-if1.if-r-ne-NUMBER.false at_min.min.ensures at-pairs.pairs.ensures
