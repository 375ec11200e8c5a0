-- `pen::pass` meets its contract: the sink stays, and the index goes behind the record.
use mathlib.Core.Path.{refl}
use Rattle.pen.proofs.pass.Goals as goal

pub returns : goal.returns
returns c = record { sink = refl; next = c.behind-next.ensures }
