-- `quick::word_alone` meets its contract: with a value nothing is done, and without one the word is the kind's spelling.
use mathlib.Core.Path.{sym, ◌∙◌}
use lib.ListN.{length}
use Rattle.append.specs.Laws.{word_is}
use Rattle.quick.specs.Laws.{nothing, with_value, word_comes}
use Rattle.quick.proofs.word_alone.Goals as goal

pub returns-then-present : goal.returns-then-present
returns-then-present c = nothing _ c.args.rec c.args.out.now _ _ (with_value c.args.rec (length c.args.out.now) _ (sym c.present.ensures ∙ c.if-present.true))

pub bare-requires : goal.bare-requires
bare-requires c = (word_is _ _ _ c.number_of.ensures c.of.ensures, sym c.present.ensures ∙ c.if-present.false)

pub returns : goal.returns
returns c =
    word_comes c.args.rec c.args.out.now _ _ _ _ (word_is _ _ _ c.number_of.ensures c.of.ensures) (sym c.present.ensures ∙ c.if-present.false) c.bare.ensures
