-- A signed number is held as its bits: what is read of 64 bits with the library's sign is the two's complement of the definition.
use Prim.Native.Nat.{ℕ, suc, ◌-◌, ◌<◌, ◌^◌}
use native.Mathlib.Omega.{arith}
use mathlib.Core.Bool.{Bool, true, false}
use mathlib.Core.Path.{◌≡◌, refl, sym, ◌∙◌}
use lib.Dec.{ltb}
use borrow.Author.Tests.{ltb-true, ltb-false}
use mir.Syntax.{w64}
use mir.Val.{to_z, of_z}
use mir.ValLaws.{to_z-of_z, to_z_pos, to_z-neg, to_z-Fits}
use Rattle.record.specs.Record.{signed}
use Rattle.record.specs.Laws.{signed_low, signed_high}

module _ (n : ℕ) (l : n < 2 ^ 64) where
  read : to_z w64 n ≡ signed n
  read = by (ltb n (2 ^ 63)) refl
    where
      by : (b : Bool) → ltb n (2 ^ 63) ≡ b → to_z w64 n ≡ signed n
      by true e = let h = ltb-true n (2 ^ 63) e in to_z_pos w64 n h ∙ sym (signed_low n h)
      by false e =
          let h = ltb-false n (2 ^ 63) e in
          let k : ℕ = 2 ^ 64 - 1 - n in
          let below : k < 2 ^ 63 = omega arith in
          let back : 2 ^ 64 - suc k ≡ n = omega arith in
          rw back at (to_z-neg w64 k below) ∙ sym (signed_high n h l)

  pub held : to_z w64 (of_z w64 (to_z w64 n)) ≡ signed n
  held = to_z-of_z w64 (to_z w64 n) (to_z-Fits w64 n (record { fits = l })) ∙ read
