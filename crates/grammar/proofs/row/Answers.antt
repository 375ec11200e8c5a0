-- `grammar::row` meets its contract: the row of a LIST's elements, and that of a kind's slots.
use Rattle.grammar.specs.Laws.{list_row, slots_row}
use borrow.Author.Rules.{rules}
use Rattle.grammar.proofs.row.Goals as goal

pub returns-then-kind-eq-LIST : goal.returns-then-kind-eq-LIST
returns-then-kind-eq-LIST c = list_row _ _ _ c.if-kind-eq-LIST.true c.element.ensures

pub returns : goal.returns
returns c = slots_row _ _ _ c.if-kind-eq-LIST.false c.places.ensures
