-- `tree::kind_fits` meets its contract: the bit of its place, each test that fails, and all of them.
use native.Mathlib.Omega.{arith}
use Rattle.grammar.specs.Laws.{stands_bit}
use Rattle.tree.specs.Laws.{kind_held, not_allowed, miscounted, all_fit}
use Rattle.tree.proofs.kind_fits.Goals as goal

pub returns-then-not-stands-place : goal.returns-then-not-stands-place
returns-then-not-stands-place c =
    not_allowed _ c.args.r _ (stands_bit _ _ _ c.stands.ensures (omega (arith, c.requires))) c.if-not-stands-place.true-raw

pub count_fits-requires : goal.count_fits-requires
count_fits-requires c =
    let at-args = c.args in
    let at_pre = c.requires in
    (c.rule-rule.ensures, kind_held _ at-args.r _ at_pre (stands_bit _ _ _ c.stands.ensures (omega (arith, at_pre))) c.if-not-stands-place.false-raw)

pub returns-then-not-count_fits : goal.returns-then-not-count_fits
returns-then-not-count_fits c =
    let at-args = c.args in
    let at-stands = c.stands in
    let at_pre = c.requires in
    miscounted _ at-args.r _ (stands_bit _ _ _ at-stands.ensures (omega (arith, at_pre))) c.if-not-stands-place.false-raw _ (c.count_fits.ensures _) c.if-not-count_fits.true-raw

pub flags_fit-requires : goal.flags_fit-requires
flags_fit-requires c =
    let at-args = c.args in
    let at_pre = c.requires in
    let at-stands = c.stands in
    (c.rule-rule.ensures, kind_held _ at-args.r _ at_pre (stands_bit _ _ _ at-stands.ensures (omega (arith, at_pre))) c.if-not-stands-place.false-raw)

pub returns : goal.returns
returns c =
    let at-args = c.args in
    let at-stands = c.stands in
    let at_pre = c.requires in
    all_fit _ at-args.r _ (stands_bit _ _ _ at-stands.ensures (omega (arith, at_pre))) c.if-not-stands-place.false-raw _ (c.count_fits.ensures _) c.if-not-count_fits.false-raw _ c.flags_fit.ensures
