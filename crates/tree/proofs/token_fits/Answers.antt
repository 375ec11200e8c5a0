-- `tree::token_fits` meets its contract: each test that fails, and all of what a TOKEN's place asks of bytes 2-7.
use Rattle.tree.specs.Laws.{no_token, token_kids, token_fit}
use Rattle.tree.proofs.token_fits.Goals as goal

pub returns-then-r-ne-TOKEN : goal.returns-then-r-ne-TOKEN
returns-then-r-ne-TOKEN c = no_token c.args.r c.if-r-ne-TOKEN.true

pub returns-then-r-ne0 : goal.returns-then-r-ne0
returns-then-r-ne0 c =
    let at-args = c.args in
    token_kids at-args.r c.if-r-ne-TOKEN.false c.if-r-ne0.true

pub returns : goal.returns
returns c =
    let at-args = c.args in
    let at-if1 = c.if-r-ne-TOKEN in
    token_fit at-args.r at-if1.false c.if-r-ne0.false _ c.number_known.ensures
