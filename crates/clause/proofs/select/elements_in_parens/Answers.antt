-- `select::elements_in_parens`: each call is a step of its shape.
use mathlib.Core.Bool.{true}
use Rattle.pen.specs.Laws.{◌▹◌}
use Rattle.parts.specs.Laws.{list_of}
use Rattle.clause.proofs.select.elements_in_parens.Goals as goal

pub returns : goal.returns
returns g c d k h r =
    let at-word2 = c in
    let at-list = at-word2 in
    let at-word = at-list in
    at-word.word-q.ensures _ _ r
    ▹ list_of k true at-list.list-q.ensures h
    ▹ at-word2.word.ensures _ _ r
