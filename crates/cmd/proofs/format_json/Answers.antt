-- `format_json`: each call is a step of its shape.
use Rattle.pen.specs.Laws.{◌▹◌, a_said}
use mathlib.Core.Path.{refl}
use Rattle.cmd.proofs.format_json.Goals as goal

pub returns : goal.returns
returns c e d r =
    let at-said2 = c in
    let at-word = at-said2 in
    let at-said = at-word in
    a_said _ refl at-said.said-q.ensures ▹ at-word.word-q.ensures e d r ▹ a_said _ refl at-said2.said.ensures
