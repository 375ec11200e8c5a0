-- `tree::token_fault` meets its contract: each return is the first fault that is found.
use Rattle.std.proofs.lemmas.Result.{err_from_is_err_and}
use Rattle.tree.specs.Laws.{bad_mark, misfit, used_off, deep, fine, fitting_token}
use Rattle.tree.proofs.token_fault.Goals as goal

pub returns-then-not-marked : goal.returns-then-not-marked
returns-then-not-marked c =
    let at-args = c.args in
    bad_mark at-args.on.now.text.now at-args.r _ _ _ _ c.marked.ensures c.if-not-marked.true-raw

pub returns-then-not-token_fits : goal.returns-then-not-token_fits
returns-then-not-token_fits c =
    let at-args = c.args in
    let at-marked = c.marked in
    misfit at-args.on.now.text.now at-args.r _ _ _ _ at-marked.ensures c.if-not-marked.false-raw _ c.token_fits.ensures c.if-not-token_fits.true-raw

pub returns-in_err-token_used : goal.returns-in_err-token_used
returns-in_err-token_used c =
    let at-args = c.args in
    let at-marked = c.marked in
    let at-fits = c.token_fits in
    let p = err_from_is_err_and c.from_residual.result c.from_residual.ensures.1 in
    rw (p.1, p.2)
    (used_off at-args.on.now.text.now at-args.r _ _ _ _ at-marked.ensures c.if-not-marked.false-raw _ at-fits.ensures c.if-not-token_fits.false-raw _ c.in_err-token_used.ensures)

pub returns-then-left-eq0 : goal.returns-then-left-eq0
returns-then-left-eq0 c =
    let at-args = c.args in
    let at-marked = c.marked in
    let at-token-fits = c.token_fits in
    deep at-args.on.now.text.now at-args.r _ _ _ _ at-marked.ensures c.if-not-marked.false-raw _ at-token-fits.ensures c.if-not-token_fits.false-raw c.in_ok-token_used.ensures c.if-left-eq0.true

pub returns : goal.returns
returns c =
    let at-args = c.args in
    let at-marked = c.marked in
    let at-token-fits = c.token_fits in
    fine at-args.on.now.text.now at-args.r _ _ _ _ at-marked.ensures c.if-not-marked.false-raw _ at-token-fits.ensures c.if-not-token_fits.false-raw c.in_ok-token_used.ensures c.if-left-eq0.false

pub token_used-requires : goal.token_used-requires
token_used-requires c =
    let at-args = c.args in
    fitting_token at-args.r _ c.token_fits.ensures c.if-not-token_fits.false-raw
