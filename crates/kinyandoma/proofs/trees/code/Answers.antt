-- `kinyandoma::trees::code` meets its contract: numbers are small and the place is below 2^32, so that they fit into one number.
use Rattle.std.proofs.Common.{arith}
use Rattle.kinyandoma.specs.Trees.{code}
use Rattle.render.specs.Laws.{number_small}
use Rattle.kinyandoma.proofs.trees.code.Goals as goal

pub joined-requires : goal.joined-requires
joined-requires c = (omega (arith, number_small c.args.o, c.number.ensures), omega (arith, c.place.ensures, c.requires))

pub returns : goal.returns
unfolding code
returns c = rw (c.number.ensures, c.place.ensures) at c.joined.ensures
