-- `append::step` meets its contract: the pool spells the kind as the table does.
use Prim.Native.Nat.{ℕ}
use mathlib.Core.Path.{◌∙◌, ap}
use mathlib.Core.List.{List}
use Rattle.spelling.specs.Table.{spelling_in}
use Rattle.spelling.specs.Laws.{spells}
use Rattle.append.specs.Laws.{word_is}
use Rattle.append.proofs.step.Goals as goal

pub checked-requires : goal.checked-requires
checked-requires c =
    let at-number-of = c in
    let at-pool = at-number-of in
    let k = at-number-of.number_of.result in
    word_is _ _ k at-number-of.number_of.ensures (c.of.ensures ∙ ap (λ (p : List ℕ). spelling_in p k) at-pool.pool-pool.ensures ∙ spells k)

pub returns : goal.returns
returns c = c.checked.ensures
