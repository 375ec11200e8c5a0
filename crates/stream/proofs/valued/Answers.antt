-- `stream::valued` meets its contract: the space, then a blob, or the spelling and the value; the pieces join by the laws of the sink.
use Rattle.std.proofs.Common.{rules}
use mathlib.Core.Path.{refl}
use Rattle.stream.specs.Laws.{step_blob, step_other, blob_one}
use Rattle.stream.proofs.valued.Goals as goal

pub returns-then-kind-eq-TK_BLOB : goal.returns-then-kind-eq-TK_BLOB
returns-then-kind-eq-TK_BLOB c = step_blob _ _ _ _ _ _ (search rules) c.gap-t.ensures c.if-kind-eq-TK_BLOB.true (blob_one _ _ c.args.value.now _ refl c.put.ensures)

-- the pieces are the last three arguments: the space, the spelling and the value
pub returns-else-kind-eq-TK_BLOB : goal.returns-else-kind-eq-TK_BLOB
returns-else-kind-eq-TK_BLOB c = step_other _ _ _ _ _ _ _ (search rules) c.gap-t.ensures c.if-kind-eq-TK_BLOB.false c.spell-u.ensures c.value_put.ensures
