-- `append::no_room` meets its contract: where a space, the longest spelling and the value fit, the token does; else it is measured.
use Prim.Native.Nat.{◌<◌, ◌^◌}
use native.Mathlib.Omega.{arith}
use lib.ListN.{length}
use Rattle.append.specs.Append.{news}
use Rattle.append.specs.Laws.{measured, ample_room, full, not_full}
use borrow.Author.Rules.{rules}
use Rattle.append.proofs.no_room.Goals as goal

pub returns-then-ample : goal.returns-then-ample
returns-then-ample c = ample_room _ _ _ _ (c.ample.ensures c.if-ample.true)

pub returns-then-room-n : goal.returns-then-room-n
unfolding news
returns-then-room-n c =
    let at-measure = c in
    let start = at-measure in
    let short : length start.args.value.now < 2 ^ 63 = search rules in
    full start.args.rec start.args.size _ _ _ (measured _ _ _ _ _ short start.requires.1 at-measure.measure-n.ensures) (omega (arith, c.if-room-n.true))

pub returns : goal.returns
unfolding news
returns c =
    let at-measure = c in
    let start = at-measure in
    let short : length start.args.value.now < 2 ^ 63 = search rules in
    not_full start.args.rec start.args.size _ _ _ (measured _ _ _ _ _ short start.requires.1 at-measure.measure-n.ensures) (omega (arith, c.if-room-n.false))
