-- `grammar::stands` meets its contract: past the last kind there is no place, and else it is looked up.
use borrow.Author.Rules.{rules}
use Rattle.grammar.specs.Laws.{no_kind}
use Rattle.grammar.proofs.stands.Goals as goal

pub returns-then-kind-ge-KINDS_HELD : goal.returns-then-kind-ge-KINDS_HELD
returns-then-kind-ge-KINDS_HELD c = no_kind _ c.if-kind-ge-KINDS_HELD.true
