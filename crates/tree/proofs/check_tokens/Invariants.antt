-- `tree::check_tokens` meets its contract: along the TOKENs what is left from here is what was to be checked from the start, and
-- a TOKEN with no fault has no children.
use Rattle.std.specs.Prelude.{◌-◌, map, replicate}
use Rattle.grammar.specs.Classes.{class_at, token_at}
use Rattle.tree.specs.Check.{place}
use Rattle.tree.specs.Steps.{Along}
use Rattle.tree.proofs.check_tokens.Given as goal

abbrev pub invariant-loop-token : goal.invariant-loop-token
invariant-loop-token l = Along l.on.tree.now l.on.text.now l.index (map (place (65 - l.left)) (replicate l.n (class_at token_at))) l.next (map (place (65 - l.left)) (replicate (l.n - l._token) (class_at token_at)))
