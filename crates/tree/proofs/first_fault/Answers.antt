-- `tree::first_fault` meets its contract: each return is the first fault that is found.
use Rattle.std.proofs.lemmas.Result.{err_from_is_err_and}
use Rattle.tree.specs.Laws.{bad_mark, misfit, used_off, deep, fine}
use Rattle.tree.proofs.first_fault.Goals as goal

pub returns-then-not-marked : goal.returns-then-not-marked
returns-then-not-marked c =
    let at-args = c.args in
    bad_mark at-args.on.now.text.now at-args.r _ _ _ _ c.marked.ensures c.if-not-marked.true-raw

pub returns-then-not-kind_fits : goal.returns-then-not-kind_fits
returns-then-not-kind_fits c =
    let at-args = c.args in
    let at-marked = c.marked in
    misfit at-args.on.now.text.now at-args.r _ _ _ _ at-marked.ensures c.if-not-marked.false-raw _ c.kind_fits.ensures c.if-not-kind_fits.true-raw

pub returns-in_err-used_fault : goal.returns-in_err-used_fault
returns-in_err-used_fault c =
    let at-args = c.args in
    let at-marked = c.marked in
    let at-fits = c.kind_fits in
    let p = err_from_is_err_and c.from_residual.result c.from_residual.ensures.1 in
    rw (p.1, p.2)
    (used_off at-args.on.now.text.now at-args.r _ _ _ _ at-marked.ensures c.if-not-marked.false-raw _ at-fits.ensures c.if-not-kind_fits.false-raw _ c.in_err-used_fault.ensures)

pub returns-then-left-eq0 : goal.returns-then-left-eq0
returns-then-left-eq0 c =
    let at-args = c.args in
    let at-marked = c.marked in
    let at-kind-fits = c.kind_fits in
    deep at-args.on.now.text.now at-args.r _ _ _ _ at-marked.ensures c.if-not-marked.false-raw _ at-kind-fits.ensures c.if-not-kind_fits.false-raw c.in_ok-used_fault.ensures c.if-left-eq0.true

pub returns : goal.returns
returns c =
    let at-args = c.args in
    let at-marked = c.marked in
    let at-kind-fits = c.kind_fits in
    fine at-args.on.now.text.now at-args.r _ _ _ _ at-marked.ensures c.if-not-marked.false-raw _ at-kind-fits.ensures c.if-not-kind_fits.false-raw c.in_ok-used_fault.ensures c.if-left-eq0.false

pub kind_fits-requires : goal.kind_fits-requires
kind_fits-requires c = c.requires
