-- `reader::digit` meets its contract: at each byte the library's test is the definition's.
use mathlib.Core.Path.{◌∙◌}
use Rattle.reader.specs.Sorts.{a_digit}
use Rattle.reader.proofs.digit.Goals as goal

pub returns : goal.returns
returns c = c.is_ascii_digit.ensures.value ∙ a_digit _ c.ranges.b.fits
