-- `store::store` meets its contract: past the end nothing is stored, and else as much as there is room for.
use native.Mathlib.Omega.{arith}
use mathlib.Core.Path.{sym}
use lib.Seq.{length-take-le}
use Rattle.laws.specs.Sets.{sets_past}
use Rattle.store.specs.Copies.{as_fits}
use Rattle.store.proofs.store.Goals as goal

pub returns-then-out-at : goal.returns-then-out-at
returns-then-out-at c =
    let at-args = c.args in
    sym (sets_past at-args.v.now at-args.out.now at-args.at (omega (arith, c.if-out-at.true)))

pub slice_bounds-lay-end : goal.slice_bounds-lay-end
slice_bounds-lay-end c =
    sym (length-take-le _ c.args.v.now (omega (arith, c.min-n.ensures)))

pub lay-requires : goal.lay-requires
lay-requires c =
    let n = c.min-n in
    rw (length-take-le n.result c.args.v.now (omega (arith, n.ensures))) (omega (arith, n.ensures))

pub returns : goal.returns
returns c =
    let start = c.args in
    rw (c.lay.ensures, c.min-n.ensures) (as_fits start.out.now start.v.now start.at (omega arith))
