-- `quick::mark` meets its contract: its byte is looked up in both sets, and it is laid or nothing is.
use mathlib.Core.Path.{ap}
use mathlib.Core.Bool.{Bool, ◌||◌}
use Rattle.quick.specs.Laws.{laid_none, laid_all}
use Rattle.quick.proofs.mark.Goals as goal

pub returns-in-None : goal.returns-in-None
returns-in-None c =
    let laid = c.lay_all-l.ensures in
    laid_none _ _ _ _ _ _ laid.0 laid.1 _ _ c.in-None.is

pub returns-in-Some : goal.returns-in-Some
returns-in-Some c =
    let at_told = c in
    let at-laid = at_told in
    let laid = at-laid.lay_all-l.ensures in
    let start = at-laid in
    laid_all start.args.rec _ _ _ _ _ laid.0 laid.1 _ _ _ _ at_told.in-Some.is
    (ap (λ (t : Bool). start.args.rec.spaced || t) at-laid.marked.ensures) c.marked-in-Some.ensures
