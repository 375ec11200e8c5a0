-- `quick::alone` meets its contract: a token word with a value is bit 15 and its kind.
use native.Mathlib.Omega.{arith}
use Rattle.quick.specs.Laws.{is_id, is_bare, is_other}
use Rattle.quick.proofs.alone.Goals as goal

pub returns-then-token-eq-ID : goal.returns-then-token-eq-ID
returns-then-token-eq-ID c = is_id _ c.if-token-eq-ID.true

pub returns-then-not-present : goal.returns-then-not-present
returns-then-not-present c = is_bare _ _ c.present.ensures c.if-not-present.true-raw

pub returns : goal.returns
returns c =
    let at-if2 = c in
    let at-present = at-if2 in
    let at-if1 = at-present in
    is_other _ _ _ _ at-if1.if-token-eq-ID.false (omega (arith, at-if1.ranges)) at-present.present.ensures at-if2.if-not-present.false-raw c.number_of.ensures c.other.ensures
