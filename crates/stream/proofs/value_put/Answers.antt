-- `stream::value_put` meets its contract, by one law.
use mathlib.Core.Path.{refl}
use Rattle.stream.specs.Sink.{mark}
use Rattle.stream.specs.Laws.{value_one}
use Rattle.stream.proofs.value_put.Goals as goal

pub returns : goal.returns
unfolding mark
returns c = value_one _ _ _ _ _ refl c.put-t.ensures c.all_blank.ensures
