-- `tree::check` meets its contract: where 1 or the length of the text comes first the encoding has no part in the answer, and else it is the text's own.
use Rattle.tree.specs.Told.{unlooked, told_checks}
use Rattle.tree.proofs.check.Goals as goal

pub returns-then-malformed-text : goal.returns-then-malformed-text
returns-then-malformed-text c = unlooked _ _ c.malformed.ensures c.if-malformed-text.true c.check_told.ensures

pub returns : goal.returns
returns c = told_checks c.check.result c.check.ensures c.check_told-2.ensures
