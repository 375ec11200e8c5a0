-- `stream::spell` meets its contract: each way through it is one law.
use Rattle.stream.specs.Sink.{mark}
use Rattle.stream.specs.Laws.{spell_none, spell_one}
use borrow.Author.Rules.{rules}
use Rattle.stream.proofs.spell.Goals as goal

pub returns-then-word-eq0 : goal.returns-then-word-eq0
returns-then-word-eq0 c = spell_none _ _ c.args.word.now (search rules) c.if-word-eq0.true

pub returns-else-word-eq0 : goal.returns-else-word-eq0
unfolding mark
returns-else-word-eq0 c =
    let at-if1 = c.if-word-eq0 in
    let at-put = c.put-t in
    spell_one _ _ _ _ _ at-if1.false at-put.ensures c.opens.ensures
