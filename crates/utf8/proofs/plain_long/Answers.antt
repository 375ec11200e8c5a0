-- `utf8::plain_long` meets its contract: where a whole piece is left, it is not plain; else a test of the last one reaches the rest.
-- Assumes nothing.
use Prim.Native.Nat.{◌-◌}
use native.Mathlib.Omega.{arith}
use lib.ListN.{length}
use Rattle.utf8.specs.Plain.{reached, stopped}
use Rattle.utf8.proofs.plain_long.Goals as goal

pub returns-then-n-pieces : goal.returns-then-n-pieces
returns-then-n-pieces g c =
    let s = c.args.s.now in
    reached s c.pieces.result (length s - g.row.N) g.row.N c.plain_first.result c.pieces.ensures (omega arith) (omega arith) c.plain_first.ensures

pub returns : goal.returns
returns g c = stopped c.args.s.now c.pieces.result g.row.N c.pieces.ensures (omega arith)

pub overflow_sub-n : goal.overflow_sub-n
overflow_sub-n g c = omega (arith, c.pieces.ensures.within)
