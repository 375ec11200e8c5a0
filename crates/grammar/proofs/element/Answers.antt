-- `grammar::element` meets its contract: past the last place there is none, and else its number is looked up.
use borrow.Author.Rules.{rules}
use Rattle.grammar.specs.Laws.{no_element}
use Rattle.grammar.proofs.element.Goals as goal

pub returns-then-place-ge-PLACES : goal.returns-then-place-ge-PLACES
returns-then-place-ge-PLACES c = no_element _ c.if-place-ge-PLACES.true
