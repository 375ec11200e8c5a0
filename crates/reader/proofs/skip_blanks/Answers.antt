-- `reader::skip_blanks` meets its contract: the blanks are taken, and the next byte is none.
use Rattle.laws.specs.Among.{among}
use Rattle.reading.specs.Bytes.{blanks}
use Rattle.reader.proofs.Blanks.{skipped}
use Rattle.reader.proofs.skip_blanks.Goals as goal

pub returns : goal.returns
returns c = skipped _ _ (c.bytes_end.ensures (λ b. among b blanks) (λ b r is. is))
