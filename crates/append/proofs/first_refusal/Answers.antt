-- `append::first_refusal` meets its contract: each return is the first condition that holds.
use mathlib.Core.Path.{ap, sym, ◌∙◌}
use Rattle.spelling.specs.Spelling.{known}
use Rattle.append.specs.Laws.{malformed, unknown, empty, stray, too_long, ill, fine}
use Rattle.append.proofs.first_refusal.Goals as goal

pub returns-then-unsound : goal.returns-then-unsound
returns-then-unsound c = malformed _ _ _ _ (sym c.unsound.ensures ∙ c.if-unsound.true)

pub returns-then-not-known : goal.returns-then-not-known
returns-then-not-known c =
    let at-if1 = c in
    let at-known = c.known in
    let at-number-of = c.number_of in
    unknown _ _ _ _ _ (sym at-if1.unsound.ensures ∙ at-if1.if-unsound.false) (at-known.ensures ∙ ap known at-number-of.ensures) c.if-not-known.true-raw

pub returns-then-value-eq0 : goal.returns-then-value-eq0
returns-then-value-eq0 c =
    let at-if1 = c in
    let at-known = c.known in
    let at-number-of = c.number_of in
    empty _ _ _ _ _ (sym at-if1.unsound.ensures ∙ at-if1.if-unsound.false) (at-known.ensures ∙ ap known at-number-of.ensures) c.if-not-known.false-raw c.if-value-eq0.true

pub returns-then-not-present : goal.returns-then-not-present
returns-then-not-present c =
    let at-if1 = c in
    let at-known = c.known in
    let at-number-of = c.number_of in
    let at-present = c.present in
    let at-if3 = c.if-value-eq0 in
    stray _ _ _ _ _ (sym at-if1.unsound.ensures ∙ at-if1.if-unsound.false) (at-known.ensures ∙ ap known at-number-of.ensures) _ c.if-not-known.false-raw at-present.ensures c.if-not-present.true-raw
    at-if3.false

pub returns-then-value-gt-LONGEST : goal.returns-then-value-gt-LONGEST
returns-then-value-gt-LONGEST c =
    let at-if1 = c in
    let at-known = c.known in
    let at-number-of = c.number_of in
    let at-present = c.present in
    too_long _ _ _ _ _ (sym at-if1.unsound.ensures ∙ at-if1.if-unsound.false) (at-known.ensures ∙ ap known at-number-of.ensures) _ c.if-not-known.false-raw at-present.ensures c.if-not-present.false-raw
    c.if-value-gt-LONGEST.true

pub returns-in-Ok : goal.returns-in-Ok
returns-in-Ok c =
    let at-if1 = c in
    let at-known = c.known in
    let at-number-of = c.number_of in
    let at-present = c.present in
    fine _ _ _ _ _ (sym at-if1.unsound.ensures ∙ at-if1.if-unsound.false) (at-known.ensures ∙ ap known at-number-of.ensures) _ c.if-not-known.false-raw at-present.ensures c.if-not-present.false-raw
    c.check.result c.if-value-gt-LONGEST.false c.check.ensures c.in-Ok.is

pub returns-in-Err : goal.returns-in-Err
returns-in-Err c =
    let at-if1 = c in
    let at-known = c.known in
    let at-number-of = c.number_of in
    let at-present = c.present in
    ill _ _ _ _ _ (sym at-if1.unsound.ensures ∙ at-if1.if-unsound.false) (at-known.ensures ∙ ap known at-number-of.ensures) _ c.if-not-known.false-raw at-present.ensures c.if-not-present.false-raw
    c.check.result c.if-value-gt-LONGEST.false c.check.ensures _ c.in-Err.is
