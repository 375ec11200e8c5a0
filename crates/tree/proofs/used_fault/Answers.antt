-- `tree::used_fault` meets its contract: bytes that are zero, each test that fails, and all.
use mathlib.Core.Path.{sym, ◌∙◌}
use Rattle.tree.specs.Laws.{all_zero, fields_off, range_off, part_off, sound}
use Rattle.tree.proofs.used_fault.Goals as goal

pub returns-then-zeros : goal.returns-then-zeros
returns-then-zeros c =
    let at-args = c.args in
    all_zero at-args.on.now.text.now _ at-args.r _ at-args.on.now.begun (sym c.zeros.ensures ∙ c.if-zeros.true)

pub returns-then-not-fields_fit : goal.returns-then-not-fields_fit
returns-then-not-fields_fit c =
    let at-args = c.args in
    fields_off at-args.on.now.text.now _ at-args.r _ _ c.fields_fit.ensures c.if-not-fields_fit.true-raw

pub range_fits-requires : goal.range_fits-requires
range_fits-requires c = c.requires

pub returns-then-not-range_fits : goal.returns-then-not-range_fits
returns-then-not-range_fits c =
    let at-args = c.args in
    let at-fields-fit = c.fields_fit in
    range_off at-args.on.now.text.now _ at-args.r _ _ at-fields-fit.ensures c.if-not-fields_fit.false-raw _ c.range_fits.ensures c.if-not-range_fits.true-raw

pub returns-then-not-inside : goal.returns-then-not-inside
returns-then-not-inside c =
    let at-args = c.args in
    let at-fields-fit = c.fields_fit in
    let at-range-fits = c.range_fits in
    part_off at-args.on.now.text.now _ at-args.r _ _ at-fields-fit.ensures c.if-not-fields_fit.false-raw _ at-range-fits.ensures c.if-not-range_fits.false-raw _ c.inside.ensures c.if-not-inside.true-raw

pub returns : goal.returns
returns c =
    let at-args = c.args in
    let at-fields-fit = c.fields_fit in
    let at-range-fits = c.range_fits in
    sound at-args.on.now.text.now _ at-args.r _ _ at-fields-fit.ensures c.if-not-fields_fit.false-raw _ at-range-fits.ensures c.if-not-range_fits.false-raw _ c.inside.ensures c.if-not-inside.false-raw
