-- `grammar::places` meets its contract: past the last kind there are none, and else they are looked up.
use borrow.Author.Rules.{rules}
use Rattle.grammar.specs.Laws.{no_places}
use Rattle.grammar.proofs.places.Goals as goal

pub returns-then-kind-ge-KINDS_HELD : goal.returns-then-kind-ge-KINDS_HELD
returns-then-kind-ge-KINDS_HELD c = no_places _ c.if-kind-ge-KINDS_HELD.true
