-- `render::write` meets its contract: the tokens of the tree, written by a sink as it is at the start, are its text.
use Prim.Native.Nat.{◌≤◌}
use lib.ListN.{length}
use Rattle.stream.specs.Sink.{most}
use Rattle.render.specs.Laws.{writes}
use borrow.Author.Rules.{rules}
use Rattle.render.proofs.write.Goals as goal

pub returns : goal.returns
returns c =
    let at-args = c.args in
    let at_pre = c.requires in
    let at-to-tokens = c.to_tokens-end in
    let room : length at-args.out.now ≤ most = search rules in
    writes _ _ _ _ _ _ at_pre room at-to-tokens.ensures
