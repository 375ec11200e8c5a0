-- The definition is right: the digits stand for the number, each is a digit, none is a zero in front, and a number of 64 bits takes 20 bytes at most.
use Rattle.std.specs.Prelude.{ℕ, zero, suc, ◌+◌, ◌-◌, ◌*◌, ◌/◌, ◌%◌, ◌^◌, ◌≤◌, ◌<◌, ◌≡◌, refl, List, [], ◌∷◌, ◌++◌, Bool, true, false, ◌&&◌, leb, ltb, length, get_or, take, replicate, ℤ, pos, negsuc, nat_abs}
use Rattle.std.proofs.Common.{arith, not-suc-le-zero, pow-suc, mul_assoc, add-one, sym, ◌∙◌, ap, length-append, ltb-true, ltb-false, le-leb}
use Rattle.std.proofs.Math.ListN.{get_or-append}
use Rattle.std.proofs.Math.Seq.{take-append_seam}
use Rattle.laws.specs.Among.{all}
use Rattle.laws.specs.Text.{ascii}
use Rattle.decimal.specs.Decimal.{digit, tens, digits, natural, decimal}
use Rattle.decimal.specs.Spells.{Spells}
use Rattle.decimal.specs.declared.Decimal.{Decimal}

-- the number that a row of digits stands for: a digit with k digits behind it counts 10 to the power k, as often as it says
abbrev pub value : List ℕ → ℕ
value [] = 0
value (b ∷ bs) = (b - 0x30) * 10 ^ length bs + value bs

abbrev pub is_digit : ℕ → Bool
is_digit b = leb 0x30 b && leb b 0x39

-- below ten, and from ten on
tens_some : (t : ℕ) (f : ℕ → List ℕ) → 0 < t → tens t f ≡ f t
tens_some zero f h = absurd (not-suc-le-zero h)
tens_some (suc t) f h = refl

digits_one : (k n : ℕ) → n < 10 → digits (suc k) n ≡ digit n ∷ []
unfolding digits
digits_one k n h =
    let q : n / 10 ≡ 0 = omega arith in
    let r : n % 10 ≡ n = omega arith in
    rw (q, r)

digits_more : (k n : ℕ) → 10 ≤ n → digits (suc k) n ≡ digits k (n / 10) ++ digit (n % 10) ∷ []
unfolding digits
digits_more k n h = rw (tens_some (n / 10) (digits k) (omega arith))

enough : (k j n : ℕ) → n < k → n < j → digits k n ≡ digits j n
enough zero j n h l = absurd (not-suc-le-zero h)
enough (suc k) zero n h l = absurd (not-suc-le-zero l)
enough (suc k) (suc j) n h l = by (ltb n 10) refl (λ b. enough k j (n / 10) (omega arith) (omega arith))
  where
    by : (b : Bool) → ltb n 10 ≡ b → (10 ≤ n → digits k (n / 10) ≡ digits j (n / 10)) → digits (suc k) n ≡ digits (suc j) n
    by true e f = let s = ltb-true n 10 e in digits_one k n s ∙ sym (digits_one j n s)
    by false e f = let g = ltb-false n 10 e in rw (digits_more k n g, digits_more j n g, f g)

pub natural_one : (n : ℕ) → n < 10 → natural n ≡ digit n ∷ []
unfolding natural
natural_one n h = digits_one n n h

pub natural_more : (n : ℕ) → 10 ≤ n → natural n ≡ natural (n / 10) ++ digit (n % 10) ∷ []
unfolding natural
natural_more n h = rw (digits_more n n h, enough n (suc (n / 10)) (n / 10) (omega arith) (omega arith))

-- what holds of a number below ten, and of one that has tens if it holds of them, holds of every number
tens_below : (P : ℕ → Type 0) → ((n : ℕ) → n < 10 → P n) → ((n : ℕ) → 10 ≤ n → P (n / 10) → P n) → (k n : ℕ) → n < k → P n
tens_below P one more zero n h = absurd (not-suc-le-zero h)
tens_below P one more (suc k) n h = by (ltb n 10) refl (λ l. tens_below P one more k (n / 10) (omega arith))
  where
    by : (b : Bool) → ltb n 10 ≡ b → (10 ≤ n → P (n / 10)) → P n
    by true e f = one n (ltb-true n 10 e)
    by false e f = let g = ltb-false n 10 e in more n g (f g)

pub by_tens : (P : ℕ → Type 0) → ((n : ℕ) → n < 10 → P n) → ((n : ℕ) → 10 ≤ n → P (n / 10) → P n) → (n : ℕ) → P n
by_tens P one more n = tens_below P one more (suc n) n (omega arith)

pub length_one : (n : ℕ) → n < 10 → length (natural n) ≡ 1
length_one n h = rw (natural_one n h)

pub length_more : (n : ℕ) → 10 ≤ n → length (natural n) ≡ length (natural (n / 10)) + 1
length_more n h = rw (natural_more n h, length-append)

pub length_some : (n : ℕ) → 0 < length (natural n)
length_some = by_tens (λ n. 0 < length (natural n)) (λ n h. omega (arith, length_one n h)) (λ n h p. omega (arith, length_more n h))

value_last : (bs : List ℕ) (d : ℕ) → value (bs ++ d ∷ []) ≡ value bs * 10 + (d - 0x30)
value_last [] d = omega arith
value_last (b ∷ bs) d =
    let ih = value_last bs d in
    let l : length (bs ++ d ∷ []) ≡ suc (length bs) = omega (arith, length-append bs (d ∷ [])) in
    rw (l, pow-suc, ← mul_assoc) (omega arith)

pub value_natural : (n : ℕ) → value (natural n) ≡ n
value_natural = by_tens (λ n. value (natural n) ≡ n) (λ n h. rw (natural_one n h) (omega arith))
    (λ n h p. rw (natural_more n h, value_last, p) (omega arith))

all_last : (bs : List ℕ) (d : ℕ) → all is_digit bs ≡ true → is_digit d ≡ true → all is_digit (bs ++ d ∷ []) ≡ true
all_last [] d p q = rw q
all_last (b ∷ bs) d p q = by (is_digit b) p (λ r. all_last bs d r q)
  where
    by : (t : Bool) → t && all is_digit bs ≡ true → (all is_digit bs ≡ true → all is_digit (bs ++ d ∷ []) ≡ true) → t && all is_digit (bs ++ d ∷ []) ≡ true
    by true p f = f p
    by false p f = p

digit_is : (d : ℕ) → d < 10 → is_digit (digit d) ≡ true
digit_is d h = rw (le-leb 0x30 (digit d) (omega arith), le-leb (digit d) 0x39 (omega arith))

pub all_digits : (n : ℕ) → all is_digit (natural n) ≡ true
all_digits = by_tens (λ n. all is_digit (natural n) ≡ true) (λ n h. rw (natural_one n h, digit_is n h))
    (λ n h p. rw (natural_more n h) (all_last (natural (n / 10)) (digit (n % 10)) p (digit_is (n % 10) (omega arith))))

-- no zero in front: the one number whose text begins with the digit 0 is 0
pub no_zero_in_front : (n : ℕ) → 0 < n → 0x30 < get_or (natural n) 0 0
no_zero_in_front = by_tens (λ n. 0 < n → 0x30 < get_or (natural n) 0 0) (λ n h l. rw (natural_one n h) (omega arith))
    (λ n h p l. rw (natural_more n h, get_or-append (natural (n / 10)) (digit (n % 10) ∷ []) 0 0 (length_some (n / 10))) (p (omega arith)))

-- a number below 10 to the power k + 1 has at most k + 1 digits
pub length_below : (n k : ℕ) → n < 10 ^ suc k → length (natural n) ≤ suc k
length_below = by_tens (λ n. (k : ℕ) → n < 10 ^ suc k → length (natural n) ≤ suc k) (λ n h k l. omega (arith, length_one n h)) (λ n h p k l. by n h p k l)
  where
    by : (n : ℕ) → 10 ≤ n → ((k : ℕ) → n / 10 < 10 ^ suc k → length (natural (n / 10)) ≤ suc k) → (k : ℕ) → n < 10 ^ suc k → length (natural n) ≤ suc k
    by n h p zero l = omega arith
    by n h p (suc k) l =
        let s : n < 10 ^ suc k * 10 = rw (pow-suc 10 (suc k)) at l in
        let t = p k (omega arith) in
        omega (arith, length_more n h)

-- a number is below 10 to the power of how many digits it has
pub below_length : (n : ℕ) → n < 10 ^ length (natural n)
below_length = by_tens (λ n. n < 10 ^ length (natural n)) (λ n h. rw (length_one n h) (omega arith))
    (λ n h p. rw (length_more n h, add-one, pow-suc) (omega arith))

pub length_decimal : (z : ℤ) → nat_abs z ≤ 2 ^ 63 → length (decimal z) ≤ 20
unfolding decimal
length_decimal (pos n) h = let l = length_below n 18 (omega arith) in omega arith
length_decimal (negsuc n) h = let l = length_below (n + 1) 18 (omega arith) in omega arith

-- the contract leaves no choice
pub unique : (z : ℤ) (a b : Decimal) → Spells z a → Spells z b → a ≡ b
unique z a b p q =
    ap (λ (l : List ℕ). record { bytes = l; len = a.len }) (p.bytes ∙ sym q.bytes)
    ∙ ap (λ (k : ℕ). record { bytes = b.bytes; len = k }) (p.len ∙ sym q.len)

-- and the bytes up to the length are the text
pub spelled_part : (z : ℤ) (n : Decimal) → Spells z n → take n.len n.bytes ≡ decimal z
spelled_part z n s = rw (s.len, s.bytes) (take-append_seam (decimal z) (replicate (20 - length (decimal z)) 0))

pub spelled_fits : (z : ℤ) (n : Decimal) → Spells z n → n.len ≤ length n.bytes
spelled_fits z n s = rw (s.len, s.bytes, length-append) (omega arith)

-- examples
zero_is : decimal (pos 0) ≡ ascii "0"
unfolding decimal natural digits
zero_is = refl

seven_is : decimal (pos 7) ≡ ascii "7"
unfolding decimal natural digits
seven_is = refl

ten_is : decimal (pos 10) ≡ ascii "10"
unfolding decimal natural digits
ten_is = refl

minus_one_is : decimal (negsuc 0) ≡ ascii "-1"
unfolding decimal natural digits
minus_one_is = refl

highest_is : decimal (pos 9223372036854775807) ≡ ascii "9223372036854775807"
unfolding decimal natural digits
highest_is = refl

lowest_is : decimal (negsuc 9223372036854775807) ≡ ascii "-9223372036854775808"
unfolding decimal natural digits
lowest_is = refl
