-- `source::ends_inside` meets its contract. The loop's invariant: the reading that goes on from the state over the bytes that are left ends where that of the whole source does.
use mathlib.Core.Path.{refl, ◌∙◌, sym}
use Rattle.source.specs.Laws.{turn, ended}
use Rattle.source.proofs.ends_inside.Goals as goal

pub loop-b-init : goal.loop-b-init
loop-b-init c = refl

pub loop-b-preserved : goal.loop-b-preserved
loop-b-preserved c =
    let loop = c.loop-b in
    sym (turn _ loop.b-index loop.at c.next-at.result c.loop-b-test.true c.next-at.ensures) ∙ loop.invariant

pub returns : goal.returns
returns c =
    let loop = c.loop-b in
    c.inside.ensures ∙ ended _ loop.b-index loop.at c.loop-b-test.false loop.invariant
