-- `store::store_byte` meets its contract: past the end nothing is stored.
use mathlib.Core.Path.{sym}
use mathlib.Core.List.{[], ◌∷◌}
use Rattle.laws.specs.Sets.{sets_past}
use Rattle.store.proofs.store_byte.Goals as goal

pub returns-then-out-i : goal.returns-then-out-i
returns-then-out-i c =
    let start = c.args in
    sym (sets_past (start.b ∷ []) start.out.now start.i c.if-out-i.true)
