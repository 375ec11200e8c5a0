-- `rules::rule_of` meets its contract: it goes by the definition's tests.
use Rattle.rules.specs.Rules.{rule_of}
use Rattle.rules.proofs.rule_of.Goals as goal

pub returns-then-kind-child : goal.returns-then-kind-child
unfolding rule_of
returns-then-kind-child c = rw c.if-kind-child.true

pub returns-then-kind-child-2 : goal.returns-then-kind-child-2
unfolding rule_of
returns-then-kind-child-2 c = rw (c.if-kind-child.false, c.if-kind-child-2.true)

pub returns : goal.returns
unfolding rule_of
returns c = rw (c.if-kind-child.false, c.if-kind-child-2.false)
