-- `reader::next` meets its contract: behind the blanks the text is at its end, or a lexeme is looked for there.
use Rattle.reader.specs.Finds.{found_behind, found_end}
use native.Mathlib.Omega.{arith}
use borrow.Author.Rules.{rules}
use Rattle.reader.proofs.next.Goals as goal

pub returns-then-at-text : goal.returns-then-at-text
returns-then-at-text c = found_end _ _ c.skip_blanks-at.ensures c.if-at-text.true

pub lexeme_at-requires : goal.lexeme_at-requires
lexeme_at-requires c =
    let some = c.if-at-text.false in
    let inside = c.skip_blanks-at.ensures.inside in
    omega arith

pub returns : goal.returns
returns c =
    let skips = c.skip_blanks-at.ensures in
    found_behind _ _ _ skips (c.lexeme_at.ensures skips.stands)
