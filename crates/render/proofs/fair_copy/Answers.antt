-- `render::fair_copy` meets its contract: a draft with room for the text begins with it, and else the text is written.
use Rattle.std.proofs.Common.{◌≡◌, ◌++◌, length, take, drop, length-take-le}
use Rattle.std.proofs.Math.Seq.{take-length}
use Rattle.render.specs.Laws.{copied}
use Rattle.render.proofs.fair_copy.Goals as goal

pub returns-then-length-draft : goal.returns-then-length-draft
returns-then-length-draft c =
    let n = c.args.length in
    let d = c.args.draft.now in
    let out = c.args.out.now in
    let now = c.copy_from_slice.new.self in
    let e : now ++ drop n out ≡ take (length (take n d)) (take n d) ++ drop n out = rw (take-length (take n d), c.copy_from_slice.ensures.after) in
    copied c.args.from.now.edition c.args.from.now.tree.now c.args.from.now.text.now out d _ n c.requires.1.0 c.requires.1.1.0 c.if-length-draft.true c.requires.1.1.1
    (rw (length-take-le n d c.if-length-draft.true) at e)

pub returns-else-length-draft : goal.returns-else-length-draft
returns-else-length-draft c = c.write.ensures.stores
