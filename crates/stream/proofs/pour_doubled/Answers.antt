-- `stream::pour_doubled` meets its contract. The loop's invariant: the bytes before the next one are poured, each quote among them doubled.
use mathlib.Core.Path.{◌∙◌, ap}
use native.Mathlib.Omega.{arith}
use lib.ListN.{length}
use lib.Seq.{take_all}
use Rattle.stream.specs.Sink.{State}
use Rattle.stream.specs.Laws.{pour_length}
use Rattle.stream.specs.Doubled.{none_poured}
use Rattle.stream.proofs.Quotes.{next_poured}
use borrow.Author.Rules.{rules}
use Rattle.stream.proofs.pour_doubled.Goals as goal

pub loop-b-init : goal.loop-b-init
loop-b-init c = (omega arith, none_poured _ (search rules))

pub loop-b-preserved : goal.loop-b-preserved
loop-b-preserved c = (omega arith, next_poured _ _ _ _ _ (search rules) c.loop-b-test.true c.loop-b.invariant.1 c.twice-t.ensures)

pub returns : goal.returns
returns c =
    let loop = c.loop-b in
    rw (take_all loop.b-index c.args.value.now c.loop-b-test.false) at loop.invariant.1

pub shape_of-out : goal.shape_of-out
shape_of-out c = ap (λ (st : State). length st.1) (returns c) ∙ pour_length _ _
