-- `spelling::cut` meets its contract: the part of the pool that the row says, or nothing.
use mathlib.Core.Path.{refl}
use borrow.Author.Rules.{rules}
use Rattle.spelling.specs.Laws.{no_part, part_by_row}
use Rattle.spelling.proofs.cut.Goals as goal

pub returns-then-pool-end : goal.returns-then-pool-end
returns-then-pool-end c =
    let at-args = c.args in
    no_part at-args.pool.now _ c.if-pool-end.true

pub returns : goal.returns
returns c =
    let at-args = c.args in
    part_by_row at-args.pool.now _ _ refl c.if-pool-end.false
