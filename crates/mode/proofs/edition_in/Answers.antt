-- `mode::edition_in` meets its contract: it goes by the definition's bit.
use borrow.Author.Tests.{eq-eqb, ne_eqb}
use Rattle.mode.specs.Options.{edition_of}
use Rattle.mode.proofs.edition_in.Goals as goal

pub returns-then-options-eq1 : goal.returns-then-options-eq1
unfolding edition_of
returns-then-options-eq1 c = rw (eq-eqb _ 1 c.if-options-eq1.true)

pub returns : goal.returns
unfolding edition_of
returns c = rw (ne_eqb _ 1 c.if-options-eq1.false)
