-- `quick::value_laid` meets its contract: the value is laid behind its space, or nothing is.
use native.Mathlib.Omega.{arith}
use mathlib.Core.Path.{refl}
use lib.ListN.{length}
use Rattle.store.specs.Laws as store
use Rattle.quick.specs.Laws.{nothing, laid_none, laid_all}
use Rattle.quick.proofs.value_laid.Goals as goal

pub returns-then-n-eq0 : goal.returns-then-n-eq0
returns-then-n-eq0 c =
    let start = c in
    nothing _ start.args.rec start.args.out.now _ _ (store.none start.args.rec.count (length start.args.out.now) start.args.value.now (omega (arith, c.if-n-eq0.true)))

pub returns-in-None : goal.returns-in-None
returns-in-None c =
    let at-laid = c in
    let laid = at-laid.lay_all-l.ensures in
    let start = at-laid in
    laid_none start.args.rec _ _ _ _ _ laid.0 laid.1 _ _ c.in-None.is

pub returns-in-Some : goal.returns-in-Some
returns-in-Some c =
    let at_told = c in
    let at-laid = at_told in
    let laid = at-laid.lay_all-l.ensures in
    let start = at-laid in
    laid_all start.args.rec _ _ _ _ _ laid.0 laid.1 _ _ _ _ at_told.in-Some.is refl c.all_blank.ensures
