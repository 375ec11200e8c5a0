-- `rows::insert_or` writes REPLACE, or INSERT and any OR.
use Rattle.stmt.specs.Laws.{replacing_is, replacing_not}
use Rattle.stmt.proofs.rows.insert_or.Goals as goal

pub returns-then-r-eq-REPLACE : goal.returns-then-r-eq-REPLACE
returns-then-r-eq-REPLACE c d r =
    let at-word = c in
    let at-if1 = at-word in
    let at_read = at-if1 in
    replacing_is at_read.read-r.ensures at-if1.if-r-eq-REPLACE.true (at-word.word-q.ensures _ d r) c.pass.ensures

pub returns : goal.returns
returns c d r =
    let at-clause = c in
    let at-word2 = at-clause in
    let at-if1 = at-word2 in
    let at_read = at-if1 in
    replacing_not at_read.read-r.ensures at-if1.if-r-eq-REPLACE.false (at-word2.word-q-2.ensures _ d r) (at-clause.clause.ensures d r)
