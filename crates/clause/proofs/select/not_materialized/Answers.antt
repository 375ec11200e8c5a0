-- `select::not_materialized` writes its words where the flags say so.
use Rattle.pen.specs.Laws.{◌▹◌}
use Rattle.pen.specs.Places.{is_so, is_not}
use Rattle.grammar.specs.Grammar.{not_materialized}
use Rattle.clause.proofs.select.not_materialized.Goals as goal

pub returns-then-flags-eq-NOT_MATERIALIZED : goal.returns-then-flags-eq-NOT_MATERIALIZED
returns-then-flags-eq-NOT_MATERIALIZED c e d r h =
    let at-word2 = c in
    let at-word = at-word2 in
    let at-if1 = at-word in
    is_so not_materialized h at-if1.if-flags-eq-NOT_MATERIALIZED.true (at-word.word-q.ensures e d r ▹ at-word2.word.ensures e d r)

pub returns : goal.returns
returns c e d r h = is_not not_materialized h c.if-flags-eq-NOT_MATERIALIZED.false
