-- `rules::check` meets its contract: 01's check is over the text's own encoding, and in the mode the answer is for the same.
use Rattle.rules.proofs.check.Goals as goal

pub in_mode-requires : goal.in_mode-requires
in_mode-requires c = record { encoding = c.check.ensures.encoding; answers = c.check.ensures.answers }

pub returns : goal.returns
returns c =
    let at-check = c.check in
    record { encoding = at-check.ensures.encoding; encoded = at-check.ensures.encoded; answers = c.in_mode.ensures _ at-check.ensures.answers }
