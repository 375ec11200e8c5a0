-- `wire::code` meets its contract: numbers are small and the place is below 2^32, so they can be joined.
use native.Mathlib.Omega.{arith}
use Rattle.append.specs.Append.{code}
use Rattle.append.specs.Laws.{number_small}
use Rattle.wire.proofs.code.Goals as goal

pub joined-requires : goal.joined-requires
joined-requires c =
    (omega (arith, number_small c.args.a, c.number.ensures), omega (arith, c.place.ensures))

pub returns : goal.returns
unfolding code
returns c = omega (arith, c.number.ensures, c.place.ensures, c.joined.ensures)
