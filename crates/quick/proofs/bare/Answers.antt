-- `quick::bare` meets its contract: a mark and a longer spelling write what the table says of them.
use Prim.Native.Nat.{◌<◌}
use native.Mathlib.Omega.{arith}
use mathlib.Core.Path.{refl}
use lib.ListN.{length}
use Rattle.store.specs.Laws.{laid_some}
use Rattle.quick.specs.Laws.{laid_none, laid_all, mark_comes, longer_comes}
use Rattle.quick.proofs.bare.Goals as goal

pub mark-requires : goal.mark-requires
mark-requires c = omega (arith, c.if-word-eq1.true)

pub returns-then-word-eq1 : goal.returns-then-word-eq1
returns-then-word-eq1 c =
    let at_mark = c in
    let at-if1 = at_mark in
    let start = at-if1 in
    mark_comes start.args.rec start.args.out.now _ _ _ _ start.requires.0 start.requires.1 (omega (arith, at-if1.if-word-eq1.true)) at_mark.mark.ensures

pub returns-in-None : goal.returns-in-None
returns-in-None c =
    let laid = c.lay_all-l.ensures in
    laid_none _ _ _ _ _ _ laid.0 laid.1 _ _ c.in-None.is

pub returns-in-Some : goal.returns-in-Some
returns-in-Some c =
    let at_told = c in
    let at-laid = at_told in
    let laid = at-laid.lay_all-l.ensures in
    let at-if1 = at-laid in
    let start = at-if1 in
    let some : 0 < length start.args.word.now = laid_some _ _ _ _ start.args.out.now _ laid.0 at_told.in-Some.is in
    longer_comes start.args.rec start.args.out.now _ _ _ _ start.requires.0 start.requires.1 (λ e. omega (arith, e, some)) (λ e. omega (arith, e, at-if1.if-word-eq1.false))
    (laid_all start.args.rec _ _ _ _ _ laid.0 laid.1 _ _ _ _ at_told.in-Some.is refl refl)
