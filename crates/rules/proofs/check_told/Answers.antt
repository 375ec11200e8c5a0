-- `rules::check_told` meets its contract: the answer in the mode is for what is taken for the text's encoding.
use Rattle.rules.proofs.check_told.Goals as goal

pub in_mode-requires : goal.in_mode-requires
in_mode-requires c = record { encoding = _; answers = c.check_told.ensures }

pub returns : goal.returns
returns c = c.in_mode.ensures _ c.check_told.ensures
