-- `store::lay_all` meets its contract: nothing is laid where there are no bytes or no room, and else all, over the space or behind it.
use Prim.Native.Nat.{◌≤◌}
use native.Mathlib.Omega.{arith}
use mathlib.Core.Path.{◌∙◌, ap, sym}
use mathlib.Core.Bool.{false≢true}
use lib.ListN.{length, set, length-set}
use lib.Seq.{length-sets}
use borrow.Author.Tests.{not-true, not-false}
use Rattle.store.specs.Laid.{most}
use Rattle.store.specs.Laws.{none, no_room, at_most_one, not_laid, all_laid}
use Rattle.store.proofs.lay_all.Goals as goal

pub returns-then-n-eq0 : goal.returns-then-n-eq0
returns-then-n-eq0 c =
    let args = c.args in
    not_laid args.at args.spaced args.v.now args.out.now (none args.at (length args.out.now) args.v.now c.if-n-eq0.true)

pub returns-then-not-fits : goal.returns-then-not-fits
returns-then-not-fits c =
    let args = c.args in
    let fits = c.fits in
    not_laid args.at args.spaced args.v.now args.out.now
    (no_room args.at (length args.out.now) args.v.now (λ h. false≢true (sym (not-true fits.result c.if-not-fits.true-raw) ∙ fits.ensures.1 h)))

pub start-a-requires : goal.start-a-requires
start-a-requires c =
    let start = c in
    let held : length start.args.out.now ≤ most = omega (arith, start.well_formed) in
    omega (arith, held, c.fits.ensures.0 (not-false _ c.if-not-fits.false-raw))

pub bounds-out-at : goal.bounds-out-at
bounds-out-at c = omega (arith, c.fits.ensures.0 (not-false _ c.if-not-fits.false-raw))

pub lay-requires : goal.lay-requires
lay-requires c =
    let args = c.args in
    rw (length-set args.out.now args.at 32)
    (omega (arith, c.start-a.ensures, at_most_one args.spaced, c.fits.ensures.0 (not-false _ c.if-not-fits.false-raw)))

pub overflow_add-result : goal.overflow_add-result
overflow_add-result c =
    let start = c in
    let held : length start.args.out.now ≤ most = omega (arith, start.well_formed) in
    let first = c in
    let room = first.fits.ensures.0 (not-false _ first.if-not-fits.false-raw) in
    omega (arith, held, first.start-a.ensures, at_most_one start.args.spaced, room)

pub shape_of-out : goal.shape_of-out
shape_of-out c =
    let args = c.args in
    ap length c.lay.ensures ∙ length-sets (set args.out.now args.at 32) _ args.v.now ∙ length-set args.out.now args.at 32

pub returns : goal.returns
returns c =
    let args = c.args in
    let first = c in
    let room = first.fits.ensures.0 (not-false _ first.if-not-fits.false-raw) in
    let some = first.if-n-eq0.false in
    let all = all_laid args.at first.start-a.result args.spaced args.v.now args.out.now some room first.start-a.ensures in
    (all.0, c.lay.ensures ∙ all.1)
