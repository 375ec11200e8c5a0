-- `append::measure` meets its contract: an output with no room counts all the same.
use Rattle.append.specs.Laws.{emits, counts}
use Rattle.append.proofs.measure.Goals as goal

pub returns : goal.returns
returns c =
    let at-append = c in
    let at-present = at-append in
    let at-number-of = at-present in
    counts _ _ _ _ _ (emits _ _ _ _ _ _ _ _ _ _ at-number-of.number_of.ensures at-present.present.ensures c.then_some.ensures at-append.append-s.ensures)
