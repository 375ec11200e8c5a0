-- `types::operator_clause` writes its entry, a step a call.
use mathlib.Core.Path.{refl}
use Rattle.pen.specs.Laws.{◌▹◌, a_said, in_one}
use Rattle.pen.specs.Places.{shut, opened, optional}
use Rattle.grammar.specs.Grammar.{shape}
use Rattle.clause.proofs.types.operator_clause.Goals as goal

pub returns-then-left-r : goal.returns-then-left-r
returns-then-left-r c r =
    let at-run = c in
    let at-if1 = at-run in
    let at_read = at-if1 in
    shut refl at_read.read-r.ensures at-if1.if-left-r.true (in_one (at-run.run.ensures _ r))

pub returns : goal.returns
unfolding shape
returns c r =
    let at_name = c in
    let at-quoted = at_name in
    let at-said = at-quoted in
    let at-pass = at-said in
    let at-if1 = at-pass in
    let at_read = at-if1 in
    opened refl at_read.read-r.ensures at-if1.if-left-r.false at-pass.pass-q.ensures (a_said _ refl at-said.said-q.ensures
    ▹ at-quoted.quoted-q.ensures _ _
    ▹ optional (in_one (at_name.name.ensures _ _)))
