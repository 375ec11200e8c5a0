-- `utf8::long` meets its contract: the definition asks the same two tests, and then counts the ones. Assumes nothing.
use borrow.Author.Tests.{lt-ltb, le-ltb}
use Rattle.utf8.specs.Scan.{long}
use Rattle.utf8.proofs.long.Goals as goal

pub returns-then-lead-lt-TWO_FIRST : goal.returns-then-lead-lt-TWO_FIRST
unfolding long
returns-then-lead-lt-TWO_FIRST c = rw (lt-ltb c.args.lead 0xC2 c.if-lead-lt-TWO_FIRST.true)

pub returns-then-lead-gt-FOUR_LAST : goal.returns-then-lead-gt-FOUR_LAST
unfolding long
returns-then-lead-gt-FOUR_LAST c =
    let lead = c.args.lead in
    rw (le-ltb lead 0xC2 c.if-lead-lt-TWO_FIRST.false, lt-ltb 0xF4 lead c.if-lead-gt-FOUR_LAST.true)

pub returns : goal.returns
unfolding long
returns c =
    let lead = c.args.lead in
    rw (le-ltb lead 0xC2 c.if-lead-lt-TWO_FIRST.false, le-ltb 0xF4 lead c.if-lead-gt-FOUR_LAST.false) c.ones.ensures
