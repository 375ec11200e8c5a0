-- `to_tokens` writes the tokens of the tree, from its first record on.
use Rattle.cmd.specs.Laws.{all_tokens}
use Rattle.cmd.proofs.to_tokens.Goals as goal

pub returns : goal.returns
returns c =
    let at_root = c in
    all_tokens at_root.root-q.ensures
