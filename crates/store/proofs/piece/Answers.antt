-- `store::piece` meets its contract: the part from at on is as long as what is copied over it.
use Rattle.std.proofs.Common.{◌≡◌, ◌+◌, ◌-◌, length, take, length-take-le, arith, append_assoc, drop-drop}
use Rattle.std.proofs.lemmas.List.Edits.{sets-eq}
use Rattle.store.proofs.piece.Goals as goal

pub returns : goal.returns
returns g c =
    let v = take g.row.N c.args.v.now in
    let l = c.args.out.now in
    let m : length v ≡ g.row.N = length-take-le g.row.N c.args.v.now c.requires.0 in
    let n : c.args.at + g.row.N - c.args.at ≡ length v = omega (arith, m) in
    rw (n, c.copy_from_slice-2.ensures.after, c.copy_from_slice.ensures.after, drop-drop (length v) c.args.at l, sets-eq v l c.args.at (omega (arith, m, c.requires.1)), append_assoc)
