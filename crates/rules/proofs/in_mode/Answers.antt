-- `rules::in_mode` meets its contract: with no rule in force the mode is 01's; and else the walk over the records that 01's check finds sound comes to
-- the first that breaks a rule, which is the answer, or 01's is.
use Rattle.std.specs.Prelude.{◌||◌}
use Rattle.std.proofs.Common.{arith}
use borrow.Author.Tests.{not-true}
use Rattle.rules.specs.Whole.{as_plain, led, sound_few}
use Rattle.rules.proofs.Whole.{in_mode}
use Rattle.rules.proofs.in_mode.Goals as goal

pub returns-then-not-strict-sqlite : goal.returns-then-not-strict-sqlite
returns-then-not-strict-sqlite c =
    as_plain _ _ _ _ (rw c.sqlite.ensures at (not-true (c.args.mode.strict || c.sqlite.result) c.if-not-strict-sqlite.true-raw))

pub sound_to-requires : goal.sound_to-requires
sound_to-requires c = sound_few _ _ _ c.requires

pub rule_row-requires : goal.rule_row-requires
rule_row-requires c = (omega arith, rw c.sound_to.ensures (led _ _ _ c.requires))

pub returns : goal.returns
returns c = rw c.ruled.ensures (in_mode _ _ _ _ c.requires _ (rw c.sound_to.ensures at c.rule_row.ensures))
