-- The whole answer: the digits stored behind the sign, at the front of twenty bytes of which the first is a minus and the others are zero.
use Prim.Native.Nat.{ℕ, zero, suc, ◌+◌, ◌-◌, ◌^◌, ◌≤◌, ◌<◌}
use native.Mathlib.Omega.{arith}
use mathlib.Core.Path.{◌≡◌, refl, ◌∙◌}
use mathlib.Core.List.{List, [], ◌∷◌, ◌++◌}
use lib.IntN.{ℤ, pos, negsuc}
use lib.ListN.{length, set, replicate, drop, length-append}
use lib.Seq.{sets, sets-eq, set-set}
use mir.Syntax.{w64}
use mir.Val.{SFits}
use Rattle.decimal.specs.Decimal.{natural, magnitude, sign, decimal}
use Rattle.decimal.specs.Powers.{most}
use Rattle.decimal.specs.Laws.{length_some, length_below}
use Rattle.decimal.specs.Spells.{Spells}
use Rattle.decimal.proofs.Signed.{held, held_is, magnitude_within}

drop_replicate : (k n : ℕ) → drop {A = ℕ} k (replicate n 0) ≡ replicate (n - k) 0
drop_replicate zero n = let e : n - 0 ≡ n = omega arith in rw e
drop_replicate (suc k) zero = let e : 0 - suc k ≡ 0 = omega arith in rw e
drop_replicate (suc k) (suc n) = let e : suc n - suc k ≡ n - k = omega arith in rw e (drop_replicate k n)

front : (v : List ℕ) → length v ≤ 20 → sets (replicate 20 0) 0 v ≡ v ++ replicate (20 - length v) 0
front v h =
    let e : 0 + length v ≡ length v = omega arith in
    sets-eq v (replicate 20 0) 0 (omega arith) ∙ rw (e, drop_replicate)

-- the first byte of a row comes over what stands there
over : (v l : List ℕ) (b : ℕ) → 0 < length v → sets (set l 0 b) 0 v ≡ sets l 0 v
over [] l b h = absurd (omega arith)
over (a ∷ v) l b h = rw set-set

abbrev pub minus : List ℕ
minus = set (replicate 20 0) 0 0x2D

signed : (z : ℤ) (v : List ℕ) → 0 < length v → sets minus (length (sign z)) v ≡ sets (replicate 20 0) 0 (sign z ++ v)
signed (pos n) v h = over v (replicate 20 0) 0x2D h
signed (negsuc n) v h = refl

few_signs : (z : ℤ) → length (sign z) ≤ 1
few_signs (pos n) = omega arith
few_signs (negsuc n) = omega arith

-- z the number, m its magnitude, s how many bytes its sign takes, d how many digits it has
module _ (z : ℤ) (f : SFits w64 z) (m : ℕ) (r : m ≡ magnitude (held z)) where
  magnitude_is : m ≡ magnitude z
  magnitude_is = rw (held_is z f) at r

  pub within : m < 10 ^ most
  within = let e = magnitude_is in let w = magnitude_within z f in omega arith

  module _ (s d : ℕ) (q : s ≡ length (sign (held z))) (g : d ≡ length (natural m)) where
    signs_are : s ≡ length (sign z)
    signs_are = rw (held_is z f) at q

    pub fits : (s ≤ 1) × (0 < d) × (d ≤ most)
    fits =
        let e = signs_are in
        let w = within in
        (omega (arith, few_signs z), omega (arith, length_some m), omega (arith, length_below m 18 (omega arith)))

    text_is : decimal z ≡ sign z ++ natural m
    unfolding decimal
    text_is = rw magnitude_is

    length_is : s + d ≡ length (decimal z)
    length_is = rw (text_is, length-append, signs_are, g)

    pub spelled : (out : List ℕ) → out ≡ sets minus s (natural m) → Spells z (record { bytes = out; len = s + d })
    spelled out p =
        let b = fits in
        let l = length_is in
        let stored : sets minus s (natural m) ≡ sets (replicate 20 0) 0 (decimal z) = rw (signs_are, text_is) (signed z (natural m) (length_some m)) in
        record { bytes = p ∙ stored ∙ front (decimal z) (omega arith); len = l }
