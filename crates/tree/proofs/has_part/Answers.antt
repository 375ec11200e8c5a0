-- `tree::has_part` meets its contract: a kind behind TEXT, a TOKEN with a value, and a TEXT.
use Rattle.tree.specs.Laws.{behind_text, token_part, other_part}
use Rattle.tree.proofs.has_part.Goals as goal

pub returns-then-r-gt-TEXT : goal.returns-then-r-gt-TEXT
returns-then-r-gt-TEXT c = behind_text c.args.r c.if-r-gt-TEXT.true

pub returns-then-r-eq-TOKEN : goal.returns-then-r-eq-TOKEN
returns-then-r-eq-TOKEN c =
    let at-args = c.args in
    token_part at-args.r c.if-r-eq-TOKEN.true

pub returns : goal.returns
returns c =
    let at-args = c.args in
    other_part at-args.r c.if-r-eq-TOKEN.false
