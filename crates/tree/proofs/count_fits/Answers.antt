-- `tree::count_fits` meets its contract: the number that the kind's rule says, and else any for a LIST and a RUN.
use Rattle.tree.specs.Laws.{as_said, not_as_said}
use Rattle.tree.proofs.count_fits.Goals as goal

pub returns-then-r-rule : goal.returns-then-r-rule
returns-then-r-rule c =
    let start = c in
    as_said _ start.args.r start.requires.0 start.requires.1 c.if-r-rule.true

pub returns : goal.returns
returns c =
    let start = c in
    not_as_said _ start.args.r start.requires.0 start.requires.1 c.if-r-rule.false
