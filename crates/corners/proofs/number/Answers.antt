-- `corners::number` writes a NUMBER's decimal text.
use borrow.Author.Rules.{rules}
use mathlib.Core.Path.{◌∙◌}
use mir.Syntax.{w64}
use mir.ValLaws.{to_z-of_z}
use Rattle.grammar.specs.Kind.{NUMBER}
use Rattle.tokens.specs.Tokens.{means}
use Rattle.parts.specs.Laws.{of_other}
use Rattle.corners.specs.Laws.{a_number}
use Rattle.corners.proofs.number.Goals as goal

pub returns-then-r-ne-NUMBER : goal.returns-then-r-ne-NUMBER
unfolding means
returns-then-r-ne-NUMBER c x d r =
    let at-pass = c in
    let at_read = at-pass in
    record { puts = of_other x NUMBER at_read.read-r.ensures at-pass.pass-q.ensures _ c.if-r-ne-NUMBER.true }

pub returns : goal.returns
returns c x d r =
    let at-spelled = c in
    let at-number = at-spelled in
    let at-if1 = at-number in
    let at-pass = at-if1 in
    let at_read = at-pass in
    a_number x at_read.read-r.ensures at-pass.pass-q.ensures at-if1.if-r-ne-NUMBER.false (to_z-of_z w64 _ (search rules) ∙ at-number.number-n.ensures) at-spelled.spelled.ensures
