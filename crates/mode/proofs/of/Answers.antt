-- `mode::of` meets its contract: the lowest bit of a number is what is left of it by two.
use native.Mathlib.Omega.{arith}
use Prim.Native.Nat.{◌/◌, ◌^◌}
use mathlib.Core.Path.{◌≡◌}
use Rattle.mode.specs.Options.{mode_of}
use Rattle.mode.proofs.of.Goals as goal

pub returns : goal.returns
unfolding mode_of
returns c =
    let n = c.args.options in
    let e : n / 2 ^ 0 ≡ n = omega arith in
    rw (e, c.edition_in.ensures)
