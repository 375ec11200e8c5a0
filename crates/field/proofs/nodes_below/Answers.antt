-- `field::nodes_below` meets its contract: a byte over and over fits into eight of them.
use native.Mathlib.Omega.{arith}
use borrow.Author.Tests.{eq-eqb, ne_eqb}
use Rattle.grammar.specs.Kind.{LIST}
use Rattle.field.specs.Nodes.{nodes_below}
use Rattle.field.proofs.nodes_below.Goals as goal

pub overflow_mul-result : goal.overflow_mul-result
overflow_mul-result c = record { fits = omega (arith, c.requires) }

pub returns-then-k-eq-LIST : goal.returns-then-k-eq-LIST
unfolding nodes_below
returns-then-k-eq-LIST c = rw (eq-eqb _ LIST c.if-k-eq-LIST.true)

pub returns : goal.returns
unfolding nodes_below
returns c = rw (ne_eqb _ LIST c.if-k-eq-LIST.false) c.nodes_of.ensures
