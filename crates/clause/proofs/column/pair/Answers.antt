-- `column::pair` writes its entry, a step a call.
use mathlib.Core.Path.{refl}
use Rattle.pen.specs.Laws.{◌▹◌}
use Rattle.pen.specs.Places.{shut, opened}
use Rattle.grammar.specs.Grammar.{shape}
use Rattle.clause.proofs.column.pair.Goals as goal

pub returns-then-left-r : goal.returns-then-left-r
returns-then-left-r c r =
    let at-run = c in
    let at-if1 = at-run in
    let at_read = at-if1 in
    shut refl at_read.read-r.ensures at-if1.if-left-r.true (at-run.run.ensures _ r)

pub returns : goal.returns
unfolding shape
returns c r =
    let at-run3 = c in
    let at-word = at-run3 in
    let at-run2 = at-word in
    let at-pass = at-run2 in
    let at-if1 = at-pass in
    let at_read = at-if1 in
    opened refl at_read.read-r.ensures at-if1.if-left-r.false at-pass.pass-q.ensures (at-run2.run-q.ensures _ _
    ▹ at-word.word-q.ensures _ _ _
    ▹ at-run3.run-2.ensures _ _)
