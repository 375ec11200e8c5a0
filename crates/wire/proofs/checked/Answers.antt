-- `wire::checked` meets its contract: a long value was laid at once, which is to append it, or nothing was done and all refusals are asked for.
use Rattle.quick.specs.Laws.{value_done, not_done}
use Rattle.wire.specs.Laws.{is_held, may_be_laid, tried_done, taken_laid, taken_crosses, laid_crosses, then_crosses}
use Rattle.wire.proofs.checked.Goals as goal

pub laid-requires : goal.laid-requires
laid-requires c =
    let at_told = c in
    let at-quick = at_told in
    let at-unpack = at-quick in
    let start = at-unpack in
    let tried = tried_done _ _ _ _ _ _ _ _ _ at-quick.long_tried-q.ensures at_told.in-Some.is in
    let held = is_held at-unpack.unpack-before.result tried.0 in
    let done = value_done _ _ start.args.out.now _ _ _ _ _ held tried.1 at_told.in-Some.is in
    may_be_laid start.args.rec.now _ _ start.requires at-unpack.unpack-before.ensures held done.on

pub returns-in-Some : goal.returns-in-Some
returns-in-Some c =
    let at-laid = c in
    let at_told = at-laid in
    let at-quick = at_told in
    let at-unpack = at-quick in
    let start = at-unpack in
    let tried = tried_done _ _ _ _ _ _ _ _ _ at-quick.long_tried-q.ensures at_told.in-Some.is in
    let done = value_done _ _ start.args.out.now _ _ _ _ _ (is_held at-unpack.unpack-before.result tried.0) tried.1 at_told.in-Some.is in
    laid_crosses _ _ _ _ _ _ _ _ _ start.requires at-unpack.unpack-before.ensures (taken_laid _ _ _ start.args.value.now _ _ done) at-laid.laid.ensures.0 at-laid.laid.ensures.1

pub returns-in-None : goal.returns-in-None
returns-in-None c =
    let at-asked = c in
    let at_told = at-asked in
    let at-quick = at_told in
    let start = at-quick in
    then_crosses _ _ _ _ _ _ _ _ (not_done _ _ _ _ _ _ _ at-quick.long_tried-q.ensures at_told.in-None.is)
    (taken_crosses _ _ _ start.args.value.now _ _ _ at-asked.asked.ensures)
