-- `store::lay` meets its contract: each piece is stored, and two that overlap reach all bytes. Assumes nothing.
use Prim.Native.Nat.{◌-◌}
use native.Mathlib.Omega.{arith}
use lib.ListN.{length}
use Rattle.store.specs.Copies.{ends}
use Rattle.store.proofs.lay.Goals as goal

pub returns-then-n-lt-EIGHT : goal.returns-then-n-lt-EIGHT
returns-then-n-lt-EIGHT c =
    let start = c in
    let v = start.args.v.now in
    rw (c.piece-then-n-lt-EIGHT.ensures, c.piece.ensures)
    (ends start.args.out.now v start.args.at 4 (length v - 4) 4 (omega arith) (omega arith))

pub returns-then-n-le-SIXTEEN : goal.returns-then-n-le-SIXTEEN
returns-then-n-le-SIXTEEN c =
    let start = c in
    let v = start.args.v.now in
    rw (c.piece-then-n-le-SIXTEEN-2.ensures, c.piece-then-n-le-SIXTEEN.ensures)
    (ends start.args.out.now v start.args.at 8 (length v - 8) 8 (omega arith) (omega arith))
