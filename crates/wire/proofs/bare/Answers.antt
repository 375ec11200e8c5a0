-- `wire::bare` meets its contract: the token was laid at once, which is to append it, or nothing was done and `checked` has the answer.
use Rattle.quick.specs.Laws.{word_done, not_done}
use Rattle.wire.specs.Laws.{is_held, may_be_laid, laid_crosses, then_crosses}
use Rattle.wire.proofs.bare.Goals as goal

pub laid-requires : goal.laid-requires
laid-requires c =
    let at_told = c in
    let at-quick = at_told in
    let at-unpack = at-quick in
    let start = at-unpack in
    let held = is_held at-unpack.unpack-before.result (rw at-unpack.unpack-before.ensures start.requires.1.0) in
    let done = word_done _ start.args.out.now _ start.args.value.now _ _ _ held start.requires.1.1 at-quick.word_alone-q.ensures at_told.in-Some.is in
    may_be_laid start.args.rec.now _ _ start.requires.0 at-unpack.unpack-before.ensures held done.on

pub returns-in-Some : goal.returns-in-Some
returns-in-Some c =
    let at-laid = c in
    let at_told = at-laid in
    let at-quick = at_told in
    let at-unpack = at-quick in
    let start = at-unpack in
    let held = is_held at-unpack.unpack-before.result (rw at-unpack.unpack-before.ensures start.requires.1.0) in
    let done = word_done _ start.args.out.now _ start.args.value.now _ _ _ held start.requires.1.1 at-quick.word_alone-q.ensures at_told.in-Some.is in
    laid_crosses _ _ _ _ _ _ _ _ _ start.requires.0 at-unpack.unpack-before.ensures done at-laid.laid.ensures.0 at-laid.laid.ensures.1

pub returns-in-None : goal.returns-in-None
returns-in-None c =
    let at-checked = c in
    let at_told = at-checked in
    let at-quick = at_told in
    then_crosses _ _ _ _ _ _ _ _ (not_done _ _ _ _ _ _ _ at-quick.word_alone-q.ensures at_told.in-None.is) at-checked.checked.ensures
