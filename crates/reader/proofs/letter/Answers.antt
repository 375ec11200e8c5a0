-- `reader::letter` meets its contract: at each byte the library's test is the definition's.
use mathlib.Core.Path.{◌∙◌}
use Rattle.reader.specs.Sorts.{a_letter}
use Rattle.reader.proofs.letter.Goals as goal

pub returns : goal.returns
returns c = c.is_ascii_alphabetic.ensures.value ∙ a_letter _ c.ranges.b.fits
