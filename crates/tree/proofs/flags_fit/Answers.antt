-- `tree::flags_fit` meets its contract: no flags fit any kind, a TOKEN's number is known, and any other kind's flags are below its rule's number.
use Rattle.tree.specs.Laws.{no_flags, flags_token, flags_rule}
use Rattle.tree.proofs.flags_fit.Goals as goal

pub returns-then-r-eq0 : goal.returns-then-r-eq0
returns-then-r-eq0 c = no_flags c.args.r c.requires.1 c.if-r-eq0.true

pub returns-then-r-eq-TOKEN : goal.returns-then-r-eq-TOKEN
returns-then-r-eq-TOKEN c =
    let at-args = c.args in
    flags_token at-args.r _ c.if-r-eq-TOKEN.true c.number_known.ensures

pub returns : goal.returns
returns c =
    let at-args = c.args in
    let at_pre = c.requires in
    flags_rule _ at-args.r at_pre.0 at_pre.1 c.if-r-eq-TOKEN.false
