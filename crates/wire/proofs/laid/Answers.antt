-- `wire::laid` meets its contract: the bit and the count are written, and to the column, which is still there, is added what was added to the count.
use native.Mathlib.Omega.{arith}
use mathlib.Core.Path.{refl, sym, ◌∙◌}
use Rattle.wire.specs.Laws.{all_long, set_length, fields_length, first_two, then_column, column_still, packs_on_line}
use Rattle.wire.proofs.laid.Goals as goal

pub bounds-rec-0 : goal.bounds-rec-0
bounds-rec-0 c = let start = c in omega (arith, all_long start.args.rec.now start.requires.0)

pub put_number-requires : goal.put_number-requires
put_number-requires c =
    let start = c in
    omega (arith, set_length start.args.rec.now c.bit.result (all_long start.args.rec.now start.requires.0))

pub number_at-column-requires : goal.number_at-column-requires
number_at-column-requires c =
    let put = c in
    let bit = put in
    let start = bit in
    omega (arith, fields_length (first_two start.args.rec.now (all_long start.args.rec.now start.requires.0) bit.bit.result _ _ put.put_number.ensures))

pub overflow_add-column : goal.overflow_add-column
overflow_add-column c =
    let read = c in
    let put = read in
    let bit = put in
    let start = bit in
    let r = start.args.rec.now in
    let two = first_two r (all_long r start.requires.0) bit.bit.result _ _ put.put_number.ensures in
    let column = column_still r _ read.number_at-column.result two read.number_at-column.ensures in
    omega (arith, column, start.requires.1.1.0, start.requires.1.1.1, start.ranges)

pub put_number-requires-2 : goal.put_number-requires-2
put_number-requires-2 c =
    let put = c in
    let bit = put in
    let start = bit in
    omega (arith, fields_length (first_two start.args.rec.now (all_long start.args.rec.now start.requires.0) bit.bit.result _ _ put.put_number.ensures))

pub shape_of-rec : goal.shape_of-rec
shape_of-rec c =
    let last = c in
    let put = last in
    let bit = put in
    let start = bit in
    let r = start.args.rec.now in
    let long = all_long r start.requires.0 in
    fields_length (then_column (first_two r long bit.bit.result _ _ put.put_number.ensures) _ _ last.put_number-2.ensures) ∙ sym long

pub returns : goal.returns
returns c =
    let last = c in
    let read = last in
    let put = read in
    let bit = put in
    let known = bit in
    let start = known in
    let r = start.args.rec.now in
    let long = all_long r start.requires.0 in
    let two = first_two r long bit.bit.result _ _ put.put_number.ensures in
    let column = column_still r _ read.number_at-column.result two read.number_at-column.ensures in
    let written = rw bit.bit.ensures at (then_column two _ _ last.put_number-2.ensures) in
    (refl, packs_on_line r _ start.args.s _ long (λ i. (known.slice_known-1.given i).fits) (omega (arith, column, start.requires.1.0)) written)
