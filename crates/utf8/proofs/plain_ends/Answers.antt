-- `utf8::plain_ends` meets its contract: the test of the last bytes begins no later than that of the first ends. Assumes nothing.
use Prim.Native.Nat.{◌-◌}
use native.Mathlib.Omega.{arith}
use lib.ListN.{length}
use Rattle.utf8.specs.Plain.{overlap}
use Rattle.utf8.proofs.plain_ends.Goals as goal

pub returns : goal.returns
returns g c =
    let s = c.args.s.now in
    overlap s g.row.N (length s - g.row.N) g.row.N _ _ (omega arith) (omega arith) c.plain_first.ensures c.plain_first-2.ensures
