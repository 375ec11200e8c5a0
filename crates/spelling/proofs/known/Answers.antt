-- `spelling::known` meets its contract: the ranges it tests are those of the table's known rows.
use Rattle.spelling.specs.Laws.{early_known, late_known}
use Rattle.spelling.proofs.known.Goals as goal

pub returns-then-number-le-TK_WITHIN : goal.returns-then-number-le-TK_WITHIN
returns-then-number-le-TK_WITHIN c = early_known _ c.if-number-le-TK_WITHIN.true

pub returns : goal.returns
returns c = late_known _ c.if-number-le-TK_WITHIN.false
