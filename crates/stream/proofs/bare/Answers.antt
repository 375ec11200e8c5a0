-- `stream::bare` meets its contract: the space, then the spelling, or an empty blob; the pieces join by the laws of the sink.
use Rattle.std.proofs.Common.{rules}
use mathlib.Core.Path.{refl}
use Rattle.stream.specs.Stream.{none}
use Rattle.stream.specs.Laws.{step_blob, step_other, value_none, blob_none}
use Rattle.stream.proofs.bare.Goals as goal

pub returns-then-kind-ne-TK_BLOB : goal.returns-then-kind-ne-TK_BLOB
returns-then-kind-ne-TK_BLOB c = step_other _ _ _ _ _ _ none (search rules) c.gap-t.ensures c.if-kind-ne-TK_BLOB.true c.spell.ensures (value_none _ none (search rules) refl)

pub returns : goal.returns
returns c = step_blob _ _ _ _ _ none (search rules) c.gap-t.ensures c.if-kind-ne-TK_BLOB.false (blob_none _ _ none refl c.put.ensures)
