-- A signed number is held as its bits. What the code reads back at a number that the bits hold, how great it is without its sign, and how many bytes its sign takes.
use Prim.Native.Nat.{ℕ, ◌≤◌, ◌<◌, ◌^◌}
use native.Mathlib.Omega.{arith}
use mathlib.Core.Path.{◌≡◌, refl, sym}
use mathlib.Core.Bool.{true, false, false≢true}
use lib.IntN.{ℤ, pos, negsuc}
use lib.Signed.{mag, lt_z}
use lib.ListN.{length}
use borrow.Author.Tests.{ltb-true}
use mir.Syntax.{w64}
use mir.Val.{SFits, to_z, of_z}
use mir.ValLaws.{to_z-of_z}
use Rattle.decimal.specs.Decimal.{magnitude, sign}

abbrev pub held : ℤ → ℤ
held z = to_z w64 (of_z w64 z)

pub not_below : (n : ℕ) → lt_z (pos n) (pos 0) ≡ true → ⊥
not_below n h = let l = ltb-true n 0 h in omega arith

minus_below : (z : ℤ) → lt_z z (pos 0) ≡ true → 1 ≡ length (sign z)
minus_below (pos n) h = absurd (not_below n h)
minus_below (negsuc k) h = refl

no_minus : (z : ℤ) → lt_z z (pos 0) ≡ false → 0 ≡ length (sign z)
no_minus (pos n) h = refl
no_minus (negsuc k) h = absurd (false≢true (sym h))

within : (z : ℤ) → mag z < 2 ^ 63 → magnitude z ≤ 2 ^ 63
within (pos n) h = omega arith
within (negsuc k) h = omega arith

module _ (z : ℤ) (f : SFits w64 z) where
  pub held_is : held z ≡ z
  held_is = to_z-of_z w64 z f

  pub magnitude_within : magnitude z ≤ 2 ^ 63
  magnitude_within = within z f.sfits

  module _ (h : lt_z (held z) (pos 0) ≡ true) where
    below : lt_z z (pos 0) ≡ true
    below = rw held_is at h

    pub signs_below : 1 ≡ length (sign z)
    signs_below = minus_below z below

  pub signs_above : lt_z (held z) (pos 0) ≡ false → 0 ≡ length (sign z)
  signs_above h = no_minus z (rw held_is at h)
