-- `grammar::turned` meets its contract: the definition's number, which has no more than eight bytes.
use native.Mathlib.Omega.{arith}
use mathlib.Core.Path.{refl}
use Rattle.grammar.specs.Packed.{turn}
use Rattle.grammar.specs.Laws.{turn_small}
use borrow.Author.Rules.{rules}
use Rattle.grammar.proofs.turned.Goals as goal

pub returns : goal.returns
unfolding turn
returns c = refl

pub overflow_add-result : goal.overflow_add-result
overflow_add-result c = omega (arith, turn_small c.args.row c.ranges.row.fits)
