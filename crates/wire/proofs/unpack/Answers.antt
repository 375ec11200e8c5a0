-- `wire::unpack` meets its contract: the first byte, and the numbers of the eight bytes of each field.
use native.Mathlib.Omega.{arith}
use Rattle.wire.specs.Laws.{all_long, unpacks}
use Rattle.wire.proofs.unpack.Goals as goal

pub bounds-rec-0 : goal.bounds-rec-0
bounds-rec-0 c = let start = c in omega (arith, all_long start.args.rec.now start.requires)

pub number_at-requires : goal.number_at-requires
number_at-requires c = let start = c in omega (arith, all_long start.args.rec.now start.requires)

pub number_at-requires-2 : goal.number_at-requires-2
number_at-requires-2 c = let start = c in omega (arith, all_long start.args.rec.now start.requires)

pub number_at-requires-3 : goal.number_at-requires-3
number_at-requires-3 c = let start = c in omega (arith, all_long start.args.rec.now start.requires)

pub returns : goal.returns
returns c =
    let start = c in
    unpacks start.args.rec.now _ _ _ start.requires c.number_at.ensures c.number_at-2.ensures c.number_at-3.ensures
