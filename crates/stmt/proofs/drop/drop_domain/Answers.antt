-- `drop::drop_domain` writes its entry, a step a call.
use Rattle.pen.specs.Laws.{◌▹◌, a_said}
use Rattle.grammar.specs.Grammar.{shape}
use mathlib.Core.Path.{refl}
use Rattle.stmt.proofs.drop.drop_domain.Goals as goal

pub returns : goal.returns
unfolding shape
returns c d r h =
    let at_name = c in
    let at-if-exists = at_name in
    let at-said = at-if-exists in
    let at-word = at-said in
    at-word.word-q.ensures _ _ r
    ▹ a_said _ refl at-said.said-q.ensures
    ▹ at-if-exists.if_exists-q.ensures _ _ r _ h
    ▹ at_name.name.ensures _ r
