-- The turns of two loops. In `count`: what a power says of how many digits a number has. In `fill`: a digit stored, and the columns behind it.
use Prim.Native.Nat.{ℕ, zero, suc, ◌+◌, ◌-◌, ◌*◌, ◌^◌, ◌≤◌, ◌<◌}
use native.Mathlib.Omega.{arith}
use native.Mathlib.Nat.{pow-suc, pow-le-pow_right, one-le-pow, not-suc-le-zero}
use native.Mathlib.Numerals.{add-one}
use mathlib.Core.Path.{◌≡◌, refl, sym, ◌∙◌, ap}
use mathlib.Core.List.{List}
use mathlib.Core.Bool.{Bool, true, false}
use lib.Dec.{ltb}
use lib.ListN.{length, set}
use lib.Seq.{sets}
use borrow.Author.Tests.{ltb-true, ltb-false}
use Rattle.decimal.specs.Decimal.{digit, natural}
use Rattle.decimal.specs.Powers.{most, power}
use Rattle.decimal.proofs.Powers.{power_is}
use Rattle.decimal.specs.Laws.{length_below, below_length}
use Rattle.decimal.proofs.Columns.{columns, natural_columns, one_column, first_column}

module _ (n k unit : ℕ) (h : k < most) (e : unit ≡ power k) where
  unit_is : unit ≡ 10 ^ k
  unit_is = e ∙ power_is k h

  -- a power that is not above the number: there are more digits
  pub counts_on : unit ≤ n → k < length (natural n)
  counts_on l = by (ltb k (length (natural n))) refl
    where
      by : (b : Bool) → ltb k (length (natural n)) ≡ b → k < length (natural n)
      by true t = ltb-true k (length (natural n)) t
      by false t =
          let p = pow-le-pow_right {n = 10} (omega arith) (ltb-false k (length (natural n)) t) in
          absurd (omega (arith, below_length n, unit_is))

  -- a power that is above it: there are no more
  pub counted : 0 < k → n < unit → length (natural n) ≤ k
  counted z l = few k z (rw unit_is at l)
    where
      few : (j : ℕ) → 0 < j → n < 10 ^ j → length (natural n) ≤ j
      few zero z l = absurd (not-suc-le-zero z)
      few (suc j) z l = length_below n j l

-- l the output, at and last the places of the next digit and of the last one, n what is left
module _ (l : List ℕ) (at last n : ℕ) where
  pub fill_start : last + 1 ≡ at + length (natural n) → (n < 10 ^ (last + 1 - at)) × (sets l at (columns (last + 1 - at) n) ≡ sets l at (natural n))
  fill_start e =
      let w : last + 1 - at ≡ length (natural n) = omega arith in
      (rw w (below_length n), rw w (ap (sets l at) (sym (natural_columns n))))

  module _ (unit : ℕ) (h : at < last) (m : last - at < most) (e : unit ≡ power (last - at)) where
    here : last + 1 - at ≡ suc (last - at)
    here = omega arith

    behind : last + 1 - (at + 1) ≡ last - at
    behind = omega arith

    this : unit ≡ 10 ^ (last - at)
    this = unit_is n (last - at) unit m e

    pub take_fits : n < 10 ^ (last + 1 - at) → (0 < unit) × (n < 10 * unit)
    take_fits b =
        let c : n < 10 ^ (last - at) * 10 = rw (here, pow-suc 10 (last - at)) at b in
        let u = this in
        (omega (arith, one-le-pow (last - at) 10 (omega arith)), omega arith)

    pub fill_turn : (d r b : ℕ) → (n ≡ d * unit + r) × (r < unit) × (d < 10) → b ≡ digit d → (r < 10 ^ (last + 1 - (at + 1))) × (sets (set l at b) (at + 1) (columns (last + 1 - (at + 1)) r) ≡ sets l at (columns (last + 1 - at) n))
    fill_turn d r b t q =
        let s : r < 10 ^ (last - at) = rw this at t.1 in
        let whole : n ≡ d * 10 ^ (last - at) + r = t.0 ∙ rw this in
        (rw behind s, rw (here, behind, whole, first_column (last - at) d r t.2 s, q, add-one))

  module _ (p : at ≡ last) (b : n < 10 ^ (last + 1 - at)) where
    one : last + 1 - at ≡ 1
    one = omega arith

    pub fill_one : n < 10
    fill_one = rw one at b

    pub fill_last : (g : ℕ) → g ≡ digit n → set l last g ≡ sets l at (columns (last + 1 - at) n)
    fill_last g q = rw (one, q, p) (ap (sets l last) (sym (one_column n fill_one)))
