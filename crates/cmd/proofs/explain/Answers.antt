-- `explain` writes its word where the flags say so.
use Rattle.grammar.specs.Grammar.{explain}
use Rattle.pen.specs.Places.{is_so, is_not}
use Rattle.cmd.proofs.explain.Goals as goal

pub returns-then-flags-eq-EXPLAIN : goal.returns-then-flags-eq-EXPLAIN
returns-then-flags-eq-EXPLAIN c e d r h =
    let at-word = c in
    let at-if1 = at-word in
    is_so explain h at-if1.if-flags-eq-EXPLAIN.true (at-word.word.ensures e d r)

pub returns : goal.returns
returns c e d r h = is_not explain h c.if-flags-eq-EXPLAIN.false
