-- `rules::rule_row` meets its contract: it calls itself on child records, and the depth that is left falls at each step down. Along a row goes a loop:
-- what is left of it from here leads to the same first broken rule as all of it from the start (`Going`). A record breaks a rule, or it has nothing
-- below it before the end, or what is below it is walked.
use Rattle.std.specs.Prelude.{ℕ, ◌-◌, map}
use Rattle.grammar.specs.Packed.{along}
use Rattle.tree.specs.Check.{place}
use Rattle.rules.specs.Walk.{Rules, Going}
use Rattle.rules.proofs.+rule_row.Given as goal

abbrev pub decreases-rule_row : goal.decreases-rule_row
decreases-rule_row l = l.left

-- whatever row it is, some of it is left
abbrev pub invariant-loop-child : goal.invariant-loop-child
invariant-loop-child l =
    (p : ℕ) → Rules p l.kind 0 l.n
    → Going l.on.mode l.on.tree.now l.on.text.now l.on.end l.index (map (place (65 - l.left)) (along p l.n)) l.left l.next l.kind l.child (l.n - l.child)
