-- `grammar::rule` meets its contract: past the last kind it is that of nothing, and else it is looked up.
use borrow.Author.Rules.{rules}
use Rattle.grammar.specs.Laws.{no_rule}
use Rattle.grammar.proofs.rule.Goals as goal

pub returns-then-kind-ge-KINDS_HELD : goal.returns-then-kind-ge-KINDS_HELD
returns-then-kind-ge-KINDS_HELD c = no_rule _ c.if-kind-ge-KINDS_HELD.true
