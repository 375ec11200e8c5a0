-- `wire::pack` meets its contract: field by field.
use native.Mathlib.Omega.{arith}
use mathlib.Core.Path.{◌∙◌, sym}
use Rattle.wire.specs.Laws.{fields_length, set_length, first_two, then_line, then_column, packs}
use Rattle.wire.proofs.pack.Goals as goal

pub put_number-requires : goal.put_number-requires
put_number-requires c =
    let start = c in
    omega (arith, set_length start.args.rec.now c.bit.result start.requires)

pub put_number-requires-2 : goal.put_number-requires-2
put_number-requires-2 c =
    let put = c in
    let bit = put in
    let start = bit in
    omega (arith, fields_length (first_two start.args.rec.now start.requires bit.bit.result _ _ put.put_number.ensures))

pub put_number-requires-3 : goal.put_number-requires-3
put_number-requires-3 c =
    let second = c in
    let put = second in
    let bit = put in
    let start = bit in
    omega (arith, fields_length (then_line (first_two start.args.rec.now start.requires bit.bit.result _ _ put.put_number.ensures) _ _ second.put_number-2.ensures))

pub shape_of-rec : goal.shape_of-rec
shape_of-rec c =
    let third = c in
    let second = third in
    let put = second in
    let bit = put in
    let start = bit in
    let two = first_two start.args.rec.now start.requires bit.bit.result _ _ put.put_number.ensures in
    fields_length (then_column (then_line two _ _ second.put_number-2.ensures) _ _ third.put_number-3.ensures) ∙ sym start.requires

pub returns : goal.returns
returns c =
    let third = c in
    let second = third in
    let put = second in
    let bit = put in
    let start = bit in
    let two = first_two start.args.rec.now start.requires bit.bit.result _ _ put.put_number.ensures in
    packs _ start.args.s (rw bit.bit.ensures at (then_column (then_line two _ _ second.put_number-2.ensures) _ _ third.put_number-3.ensures))
