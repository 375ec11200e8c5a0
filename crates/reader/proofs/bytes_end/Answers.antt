-- `reader::bytes_end` meets its contract. The loop's invariant: where the bytes end is the same from the start and from `i` on.
use Rattle.std.proofs.Common.{◌≡◌, arith, sym, ◌∙◌, length}
use Rattle.reader.specs.Laws.{takes_off, takes_end}
use Rattle.reader.proofs.Laws.{takes_on}
use Rattle.reader.proofs.bytes_end.Goals as goal

pub returns-then-not-sort : goal.returns-then-not-sort
returns-then-not-sort g c =
    λ p is.
    let loop = c.loop-i in
    sym (loop.invariant p is ∙ takes_off p _ loop.i c.loop-i-test.true (sym (is _ _ c.sort.ensures) ∙ c.if-not-sort.true))

pub loop-i-preserved : goal.loop-i-preserved
loop-i-preserved g c =
    λ p is.
    let loop = c.loop-i in
    loop.invariant p is ∙ takes_on p _ loop.i c.loop-i-test.true (sym (is _ _ c.sort.ensures) ∙ c.if-not-sort.false)

pub returns : goal.returns
returns g c =
    λ p is.
    let loop = c.loop-i in
    let inside = loop.auto.i-end c.requires.inside in
    let all : length c.args.text.now ≡ loop.i = omega (arith, c.loop-i-test.false, inside) in
    rw all (sym (loop.invariant p is ∙ takes_end p _ loop.i c.loop-i-test.false))
