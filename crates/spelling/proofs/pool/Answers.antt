-- `spelling::pool` meets its contract: the bytes of the source are what the rows lay out, which is computed.
use mathlib.Core.Path.{refl}
use Rattle.spelling.specs.Rows.{rows}
use Rattle.spelling.specs.Table.{bytes}
use Rattle.spelling.proofs.pool.Goals as goal

pub returns : goal.returns
unfolding bytes rows
returns c = refl
