-- Four bytes tested by their number. They are below 80 exactly if it has none of the highest bits, those of a mask with 80 in each byte.
-- Then what each leaves of 9F is a byte too, with no borrow, and is below 80 exactly if the byte is from 20 on: so they are plain exactly if
-- the number of what they leave has none of the highest bits either. Assumes nothing.
use Rattle.std.specs.Prelude.{ℕ, zero, suc, ◌+◌, ◌*◌, ◌-◌, ◌^◌, ◌≤◌, ◌<◌, ◌≡◌, refl, List, [], ◌∷◌, Bool, true, false, ◌&&◌, leb, ltb, eqb, length, take, get_or, replicate}
use Rattle.std.proofs.Common.{◌∙◌, arith, ltb-true, lt-ltb, leb-true, le-leb, eqb-true, eq-eqb}
use Rattle.std.proofs.Math.Bool
use Rattle.std.specs.Int.Bits.{bit_and}
use Rattle.std.proofs.lemmas.Nat.{and_block}
use Rattle.laws.specs.Tests.{and_left, and_right, and_both, as_one, beq}
use Rattle.laws.specs.Below.{at}
use Rattle.laws.specs.Little.{from_little}
use Rattle.utf8.specs.Plain.{plain, all_plain}

-- all bytes are below 80
unfoldable all_low : List ℕ → Bool
all_low [] = true
all_low (x ∷ s) = ltb x 0x80 && all_low s

-- what each byte leaves of 9F
unfoldable left : List ℕ → List ℕ
left [] = []
left (x ∷ s) = (0x9F - x) ∷ left s

-- of one byte: a test at each of the 256, which antt computes
abbrev right : ℕ → Bool
right b = Bool.beq (eqb (bit_and b 0x80) 0) (ltb b 0x80)

highest : (b : ℕ) → b < 256 → eqb (bit_and b 0x80) 0 ≡ ltb b 0x80
highest b h = beq (eqb (bit_and b 0x80) 0) (ltb b 0x80) (at right 256 refl b h)

-- a number is 0 where its lowest byte and the others are
no_bits : (x y : ℕ) → eqb (x * 256 + y) 0 ≡ eqb y 0 && eqb x 0
no_bits x y = as_one (eqb (x * 256 + y) 0) (eqb y 0 && eqb x 0) to from
  where
    to : eqb (x * 256 + y) 0 ≡ true → eqb y 0 && eqb x 0 ≡ true
    to t =
        let z = eqb-true (x * 256 + y) 0 t in
        and_both (eqb y 0) (eqb x 0) (eq-eqb y 0 (omega arith)) (eq-eqb x 0 (omega arith))

    from : eqb y 0 && eqb x 0 ≡ true → eqb (x * 256 + y) 0 ≡ true
    from t =
        let y-none = eqb-true y 0 (and_left (eqb y 0) (eqb x 0) t) in
        let x-none = eqb-true x 0 (and_right (eqb y 0) (eqb x 0) t) in
        eq-eqb (x * 256 + y) 0 (omega arith)

-- of the first n bytes: all are below 80 exactly if their number has none of the bits
masked : (n : ℕ) (s : List ℕ) → ((i : ℕ) → get_or s i 0 < 256)
    → eqb (bit_and (from_little (take n s)) (from_little (replicate n 0x80))) 0 ≡ all_low (take n s)
unfolding all_low
masked zero s f = refl
masked (suc n) [] f = refl
masked (suc n) (b ∷ s) f =
    let low = f 0 in
    let x = from_little (take n s) in
    let m = from_little (replicate n 0x80) in
    let number : b + 256 * x ≡ x * 256 + b = omega arith in
    let mask : 0x80 + 256 * m ≡ m * 256 + 0x80 = omega arith in
    let parts : bit_and (x * 256 + b) (m * 256 + 0x80) ≡ bit_and x m * 256 + bit_and b 0x80 = and_block 8 x m b 0x80 low (omega arith) in
    rw (number, mask, parts, no_bits (bit_and x m) (bit_and b 0x80), highest b low, masked n s (λ i. f (suc i)))

-- plain bytes are below 80, and so is what they leave
plain_left : (s : List ℕ) → all_low s && all_low (left s) ≡ all_plain s
unfolding all_low left all_plain plain
plain_left [] = refl
plain_left (x ∷ s) = rw (from_20, ← plain_left s) (by (ltb x 0x80) (all_low s) (leb 0x20 x) (all_low (left s)))
  where
    from_20 : ltb (0x9F - x) 0x80 ≡ leb 0x20 x
    from_20 =
        as_one (ltb (0x9F - x) 0x80) (leb 0x20 x) (λ t. le-leb 0x20 x (omega (arith, ltb-true (0x9F - x) 0x80 t)))
        (λ t. lt-ltb (0x9F - x) 0x80 (omega (arith, leb-true 0x20 x t)))

    by : (a b c d : Bool) → (a && b) && (c && d) ≡ (c && a) && (b && d)
    by true true true d = refl
    by true true false d = refl
    by true false true d = refl
    by true false false d = refl
    by false b true d = refl
    by false b false d = refl

-- nothing is borrowed where bytes below 80 are taken from 9F each
none_borrowed : (s : List ℕ) → all_low s ≡ true → from_little (left s) + from_little s ≡ from_little (replicate (length s) 0x9F)
unfolding all_low left
none_borrowed [] t = refl
none_borrowed (x ∷ s) t =
    let low = ltb-true x 0x80 (and_left (ltb x 0x80) (all_low s) t) in
    let others = none_borrowed s (and_right (ltb x 0x80) (all_low s) t) in
    omega arith

left_byte : (s : List ℕ) (i : ℕ) → get_or (left s) i 0 < 256
unfolding left
left_byte [] i = omega arith
left_byte (x ∷ s) zero = omega arith
left_byte (x ∷ s) (suc i) = left_byte s i

-- the bit above the four bytes is not in the mask
above : (x : ℕ) → x < 2 ^ 32 → bit_and (2 ^ 32 + x) 0x80808080 ≡ bit_and x 0x80808080
above x h = omega (arith, and_block 32 1 0 x 0x80808080 h (omega arith))

-- of the first four bytes: all are plain exactly if neither number has one of the bits
pub masked_plain : (s : List ℕ) → 4 ≤ length s → ((i : ℕ) → get_or s i 0 < 256)
    → eqb (bit_and (from_little (take 4 s)) 0x80808080) 0 && eqb (bit_and (0x19F9F9F9F - from_little (take 4 s)) 0x80808080) 0 ≡ all_plain (take 4 s)
unfolding left
masked_plain [] h f = absurd (omega arith)
masked_plain (a ∷ []) h f = absurd (omega arith)
masked_plain (a ∷ b ∷ []) h f = absurd (omega arith)
masked_plain (a ∷ b ∷ c ∷ []) h f = absurd (omega arith)
masked_plain (a ∷ b ∷ c ∷ d ∷ t) h f = rw (masked 4 (a ∷ b ∷ c ∷ d ∷ t) f) (where_so (all_low s) _ _ second ∙ plain_left s)
  where
    s : List ℕ
    s = a ∷ b ∷ c ∷ d ∷ []

    where_so : (p q r : Bool) → (p ≡ true → q ≡ r) → p && q ≡ p && r
    where_so true q r g = g refl
    where_so false q r g = refl

    second : all_low s ≡ true → eqb (bit_and (0x19F9F9F9F - from_little s) 0x80808080) 0 ≡ all_low (left s)
    second low =
        let sum = none_borrowed s low in
        let apart : 0x19F9F9F9F - from_little s ≡ 2 ^ 32 + from_little (left s) = omega arith in
        rw (apart, above (from_little (left s)) (omega arith)) (masked 4 (left s) (left_byte s))
