-- `select::materialized` writes its word where the flags say so.
use Rattle.grammar.specs.Grammar.{materialized}
use Rattle.pen.specs.Places.{is_so, is_not}
use Rattle.clause.proofs.select.materialized.Goals as goal

pub returns-then-flags-eq-MATERIALIZED : goal.returns-then-flags-eq-MATERIALIZED
returns-then-flags-eq-MATERIALIZED c e d r h =
    let at-word = c in
    let at-if1 = at-word in
    is_so materialized h at-if1.if-flags-eq-MATERIALIZED.true (at-word.word.ensures e d r)

pub returns : goal.returns
returns c e d r h = is_not materialized h c.if-flags-eq-MATERIALIZED.false
