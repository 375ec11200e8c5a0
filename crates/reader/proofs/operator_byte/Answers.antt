-- `reader::operator_byte` meets its contract: at each byte its test is the definition's.
use Rattle.reader.specs.Sorts.{an_operator}
use Rattle.reader.proofs.operator_byte.Goals as goal

pub returns : goal.returns
returns c = an_operator _ c.ranges.b.fits
