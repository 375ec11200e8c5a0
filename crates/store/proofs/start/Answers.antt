-- `store::start` meets its contract by the two ways of what stands before the bytes.
use native.Mathlib.Nat.{add-zero}
use mathlib.Core.Path.{refl, sym}
use Rattle.store.specs.Laid.{lead}
use Rattle.store.proofs.start.Goals as goal

pub returns-then-spaced : goal.returns-then-spaced
unfolding lead
returns-then-spaced c = rw c.if-spaced.true (sym (add-zero c.args.at))

pub returns-else-spaced : goal.returns-else-spaced
unfolding lead
returns-else-spaced c = rw c.if-spaced.false refl
