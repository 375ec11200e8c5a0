-- `decimal::spell` meets its contract: the digits stand behind the sign, and zero bytes behind them.
use native.Mathlib.Omega.{arith}
use Rattle.decimal.proofs.Whole.{within, fits, spelled}
use Rattle.decimal.proofs.spell.Goals as goal

pub count-requires : goal.count-requires
count-requires c = within _ c.ranges.n _ c.magnitude-m.ensures

pub overflow_add-len : goal.overflow_add-len
overflow_add-len c =
    let w = fits _ c.ranges.n _ c.magnitude-m.ensures _ _ c.signs-first.ensures c.count.ensures in
    omega arith

pub overflow_sub-len : goal.overflow_sub-len
overflow_sub-len c =
    let w = fits _ c.ranges.n _ c.magnitude-m.ensures _ _ c.signs-first.ensures c.count.ensures in
    omega arith

pub fill-requires : goal.fill-requires
fill-requires c =
    let at_count = c in
    let w = fits _ at_count.ranges.n _ at_count.magnitude-m.ensures _ _ at_count.signs-first.ensures at_count.count.ensures in
    (omega arith, omega arith, omega arith)

pub returns : goal.returns
returns c =
    let at_count = c in
    spelled
    _ at_count.ranges.n _ at_count.magnitude-m.ensures _ _ at_count.signs-first.ensures at_count.count.ensures
    _ c.fill.ensures
