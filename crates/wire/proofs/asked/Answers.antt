-- `wire::asked` meets its contract: the record that the bytes pack is lent.
use mathlib.Core.Path.{refl, sym}
use mathlib.Core.Bool.{true}
use Rattle.append.specs.Laws.{place_small}
use Rattle.wire.specs.Laws.{all_long, taken_whole, well}
use Rattle.wire.proofs.asked.Goals as goal

pub repack-requires : goal.repack-requires
repack-requires c =
    let start = c in
    all_long start.args.rec.now start.requires

pub code-requires : goal.code-requires
code-requires c = place_small _ _ _ _ _ _ _ c.lent-next.ensures

pub returns : goal.returns
returns c =
    let at-repack = c in
    let at-lent = at-repack in
    let at-unpack = at-lent in
    let start = at-unpack in
    well _ _ _ _ true _ _ _ _ _ _ (sym start.requires) refl at-unpack.unpack.ensures
    (taken_whole _ _ _ start.args.value.now _ _ _ at-lent.lent-next.ensures) c.code.ensures at-repack.repack.ensures
