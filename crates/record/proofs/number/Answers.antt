-- `record::number` meets its contract: the two halves fit 64 bits, whose sign the library reads as the definition does.
use native.Mathlib.Omega.{arith}
use Rattle.record.specs.Record.{number_of}
use Rattle.record.proofs.Signed.{held}
use Rattle.record.proofs.number.Goals as goal

pub returns : goal.returns
unfolding number_of
returns c = rw (c.cast_signed.ensures, c.from.ensures, c.from-2.ensures) (held _ (omega arith))
