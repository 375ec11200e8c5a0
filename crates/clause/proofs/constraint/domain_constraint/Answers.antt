-- `constraint::domain_constraint` writes its entry, a step a call.
use mathlib.Core.Path.{refl}
use Rattle.pen.specs.Laws.{◌▹◌}
use Rattle.pen.specs.Places.{shut, opened}
use Rattle.grammar.specs.Grammar.{shape}
use Rattle.clause.proofs.constraint.domain_constraint.Goals as goal

pub returns-then-left-r : goal.returns-then-left-r
returns-then-left-r c r =
    let at-run = c in
    let at-if1 = at-run in
    let at_read = at-if1 in
    shut refl at_read.read-r.ensures at-if1.if-left-r.true (at-run.run.ensures _ r)

pub returns : goal.returns
unfolding shape
returns c r =
    let at-word3 = c in
    let at-run2 = at-word3 in
    let at-word2 = at-run2 in
    let at-word = at-word2 in
    let at-constraint-name = at-word in
    let at-pass = at-constraint-name in
    let at-if1 = at-pass in
    let at_read = at-if1 in
    opened refl at_read.read-r.ensures at-if1.if-left-r.false at-pass.pass-q.ensures (at-constraint-name.constraint_name-q.ensures _ _
    ▹ at-word.word-q.ensures _ _ _
    ▹ at-word2.word-q-2.ensures _ _ _
    ▹ at-run2.run-q.ensures _ _
    ▹ at-word3.word.ensures _ _ _)
