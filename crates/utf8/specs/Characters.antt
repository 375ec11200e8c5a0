-- The length that `Scan` finds is the RFC's: it is that of the character that begins the bytes, and 0 only where none does.
-- A character's length goes by its first byte, so two characters that begin the same bytes are the same.
-- Assumes nothing.
use Rattle.std.specs.Prelude.{ℕ, zero, suc, ◌≤◌, ◌<◌, ◌≡◌, refl, List, [], ◌∷◌, ◌++◌, Bool, true, false, cond, ◌&&◌, leb, ltb, length, take, drop, get_or}
use Rattle.std.proofs.Common.{ap, le_of_suc-le-suc, not-suc-le-zero, arith, le-leb, leb-true, lt-ltb, le-ltb, ltb-true, ltb-false, ne_eqb}
use Rattle.laws.specs.Tests.{and_left, and_right, and_both}
use Rattle.utf8.specs.Rfc3629.{In, Tail, tail, Char, one, two, three_E0, three_E1, three_ED, three_EE, four_F0, four_F1, four_F4}
use Rattle.utf8.specs.Scan.{ones, low, high, second, pair, triple, quadruple, passing, two as two', three as three', four as four', counted, width}

-- ---- tests

pub tail_true : (x : ℕ) → Tail x → tail x ≡ true
tail_true x h = and_both (leb 0x80 x) (leb x 0xBF) (le-leb 0x80 x h.low) (le-leb x 0xBF h.high)

pub true_tail : (x : ℕ) → tail x ≡ true → Tail x
true_tail x e = record { low = leb-true _ _ (and_left (leb 0x80 x) (leb x 0xBF) e); high = leb-true _ _ (and_right (leb 0x80 x) (leb x 0xBF) e) }

-- ---- the count of ones

-- what a count says of the byte
data Count (b : ℕ) : ℕ → Type 0 where
  c0 : b ≤ 0x7F → Count b 0
  c1 : Count b 1
  c2 : In 0xC0 0xDF b → Count b 2
  c3 : In 0xE0 0xEF b → Count b 3
  c4 : In 0xF0 0xF7 b → Count b 4
  c5 : {n : ℕ} → 5 ≤ n → Count b n

count : (b : ℕ) → Count b (ones b)
unfolding ones
count b = go (ltb b 0x80) (ltb b 0xC0) (ltb b 0xE0) (ltb b 0xF0) (ltb b 0xF8) refl refl refl refl refl
  where
    more : (u v w : Bool) → 5 ≤ cond u 5 (cond v 6 (cond w 7 8))
    more true v w = omega arith
    more false true w = omega arith
    more false false true = omega arith
    more false false false = omega arith

    go : (p q r s t : Bool) → ltb b 0x80 ≡ p → ltb b 0xC0 ≡ q → ltb b 0xE0 ≡ r → ltb b 0xF0 ≡ s → ltb b 0xF8 ≡ t
        → Count b (cond p 0 (cond q 1 (cond r 2 (cond s 3 (cond t 4 (cond (ltb b 0xFC) 5 (cond (ltb b 0xFE) 6 (cond (ltb b 0xFF) 7 8))))))))
    go true q r s t e f g h i = c0 (omega (arith, ltb-true b 0x80 e))
    go false true r s t e f g h i = c1
    go false false true s t e f g h i = c2 (omega (arith, ltb-false b 0xC0 f, ltb-true b 0xE0 g))
    go false false false true t e f g h i = c3 (omega (arith, ltb-false b 0xE0 g, ltb-true b 0xF0 h))
    go false false false false true e f g h i = c4 (omega (arith, ltb-false b 0xF0 h, ltb-true b 0xF8 i))
    go false false false false false e f g h i = c5 (more (ltb b 0xFC) (ltb b 0xFE) (ltb b 0xFF))

pub ones_0 : (b : ℕ) → b ≤ 0x7F → ones b ≡ 0
unfolding ones
ones_0 b h = rw (lt-ltb b 0x80 (omega arith))

pub ones_2 : (b : ℕ) → In 0xC0 0xDF b → ones b ≡ 2
unfolding ones
ones_2 b h = rw (le-ltb b 0x80 (omega arith), le-ltb b 0xC0 (omega arith), lt-ltb b 0xE0 (omega arith))

pub ones_3 : (b : ℕ) → In 0xE0 0xEF b → ones b ≡ 3
unfolding ones
ones_3 b h = rw (le-ltb b 0x80 (omega arith), le-ltb b 0xC0 (omega arith), le-ltb b 0xE0 (omega arith), lt-ltb b 0xF0 (omega arith))

pub ones_4 : (b : ℕ) → In 0xF0 0xF7 b → ones b ≡ 4
unfolding ones
ones_4 b h =
    rw (le-ltb b 0x80 (omega arith), le-ltb b 0xC0 (omega arith), le-ltb b 0xE0 (omega arith), le-ltb b 0xF0 (omega arith), lt-ltb b 0xF8 (omega arith))

-- ---- the second byte: its range after each of the RFC's leads

pub record Row (a from to : ℕ) : Type 0 where
  pub low_is : low a ≡ from
  pub high_is : high a ≡ to

lone : (a b : ℕ) → In b b a → Row a (low b) (high b)
lone a b h = let e : a ≡ b = omega arith in record { low_is = ap low e; high_is = ap high e }

plain : (a : ℕ) → (a ≡ 0xE0 → ⊥) → (a ≡ 0xED → ⊥) → (a ≡ 0xF0 → ⊥) → (a ≡ 0xF4 → ⊥) → Row a 0x80 0xBF
unfolding low high
plain a h k l m = record { low_is = rw (ne_eqb a 0xE0 h, ne_eqb a 0xF0 l); high_is = rw (ne_eqb a 0xED k, ne_eqb a 0xF4 m) }

pub row_E0 : (a : ℕ) → In 0xE0 0xE0 a → Row a 0xA0 0xBF
unfolding low high
row_E0 a h = lone a 0xE0 h

pub row_E1 : (a : ℕ) → In 0xE1 0xEC a → Row a 0x80 0xBF
row_E1 a h = plain a (λ e. omega arith) (λ e. omega arith) (λ e. omega arith) (λ e. omega arith)

pub row_ED : (a : ℕ) → In 0xED 0xED a → Row a 0x80 0x9F
unfolding low high
row_ED a h = lone a 0xED h

pub row_EE : (a : ℕ) → In 0xEE 0xEF a → Row a 0x80 0xBF
row_EE a h = plain a (λ e. omega arith) (λ e. omega arith) (λ e. omega arith) (λ e. omega arith)

pub row_F0 : (a : ℕ) → In 0xF0 0xF0 a → Row a 0x90 0xBF
unfolding low high
row_F0 a h = lone a 0xF0 h

pub row_F1 : (a : ℕ) → In 0xF1 0xF3 a → Row a 0x80 0xBF
row_F1 a h = plain a (λ e. omega arith) (λ e. omega arith) (λ e. omega arith) (λ e. omega arith)

pub row_F4 : (a : ℕ) → In 0xF4 0xF4 a → Row a 0x80 0x8F
unfolding low high
row_F4 a h = lone a 0xF4 h

pub second_true : (a b : ℕ) → In (low a) (high a) b → second a b ≡ true
second_true a b h = and_both (leb (low a) b) (leb b (high a)) (le-leb (low a) b h.low) (le-leb b (high a) h.high)

pub true_second : (a b : ℕ) → second a b ≡ true → In (low a) (high a) b
true_second a b e =
    record { low = leb-true _ _ (and_left (leb (low a) b) (leb b (high a)) e); high = leb-true _ _ (and_right (leb (low a) b) (leb b (high a)) e) }

-- ---- a character's length is found

width_1 : (a : ℕ) (t : List ℕ) → In 0x00 0x7F a → width (a ∷ t) ≡ 1
unfolding width counted
width_1 a t h = rw (ones_0 a h.high)

width_2 : (a b : ℕ) (t : List ℕ) → In 0xC2 0xDF a → Tail b → width (a ∷ b ∷ t) ≡ 2
unfolding width counted two'
width_2 a b t h k =
    rw (ones_2 a (omega arith), le-leb 2 (length (a ∷ b ∷ t)) (omega arith), le-leb 0xC2 a h.low, tail_true b k)

width_3 : (a b c : ℕ) (t : List ℕ) → In 0xE0 0xEF a → In (low a) (high a) b → Tail c → width (a ∷ b ∷ c ∷ t) ≡ 3
unfolding width counted three'
width_3 a b c t h k l =
    rw (ones_3 a h, le-leb 3 (length (a ∷ b ∷ c ∷ t)) (omega arith), second_true a b k, tail_true c l)

width_4 : (a b c d : ℕ) (t : List ℕ) → In 0xF0 0xF4 a → In (low a) (high a) b → Tail c → Tail d → width (a ∷ b ∷ c ∷ d ∷ t) ≡ 4
unfolding width counted four'
width_4 a b c d t h k l m =
    rw
    (ones_4 a (omega arith), le-leb 4 (length (a ∷ b ∷ c ∷ d ∷ t)) (omega arith), le-leb a 0xF4 h.high, second_true a b k, tail_true c l, tail_true d m)

pub width_char : {c : List ℕ} → Char c → (t : List ℕ) → width (c ++ t) ≡ length c
width_char (one {a} h) t = width_1 a t h
width_char (two {a} {b} h k) t = width_2 a b t h k
width_char (three_E0 {a} {b} {c} h k l) t = width_3 a b c t (omega arith) (omega (arith, row_E0 a h)) l
width_char (three_E1 {a} {b} {c} h k l) t = width_3 a b c t (omega arith) (omega (arith, row_E1 a h)) l
width_char (three_ED {a} {b} {c} h k l) t = width_3 a b c t (omega arith) (omega (arith, row_ED a h)) l
width_char (three_EE {a} {b} {c} h k l) t = width_3 a b c t (omega arith) (omega (arith, row_EE a h)) l
width_char (four_F0 {a} {b} {c} {d} h k l m) t = width_4 a b c d t (omega arith) (omega (arith, row_F0 a h)) l m
width_char (four_F1 {a} {b} {c} {d} h k l m) t = width_4 a b c d t (omega arith) (omega (arith, row_F1 a h)) l m
width_char (four_F4 {a} {b} {c} {d} h k l m) t = width_4 a b c d t (omega arith) (omega (arith, row_F4 a h)) l m

-- ---- what is found is a character

pub char_3 : (a b c : ℕ) → In 0xE0 0xEF a → In (low a) (high a) b → Tail c → Char (a ∷ b ∷ c ∷ [])
char_3 a b c h k l = go (ltb a 0xE1) (ltb a 0xED) (ltb a 0xEE) refl refl refl
  where
    go : (p q r : Bool) → ltb a 0xE1 ≡ p → ltb a 0xED ≡ q → ltb a 0xEE ≡ r → Char (a ∷ b ∷ c ∷ [])
    go true q r e f g =
        let x : In 0xE0 0xE0 a = omega (arith, ltb-true a 0xE1 e) in
        three_E0 {b = b} x (omega (arith, row_E0 a x)) l
    go false true r e f g =
        let x : In 0xE1 0xEC a = omega (arith, ltb-false a 0xE1 e, ltb-true a 0xED f) in
        three_E1 {b = b} x (omega (arith, row_E1 a x)) l
    go false false true e f g =
        let x : In 0xED 0xED a = omega (arith, ltb-false a 0xED f, ltb-true a 0xEE g) in
        three_ED {b = b} x (omega (arith, row_ED a x)) l
    go false false false e f g =
        let x : In 0xEE 0xEF a = omega (arith, ltb-false a 0xEE g) in
        three_EE {b = b} x (omega (arith, row_EE a x)) l

pub char_4 : (a b c d : ℕ) → In 0xF0 0xF4 a → In (low a) (high a) b → Tail c → Tail d → Char (a ∷ b ∷ c ∷ d ∷ [])
char_4 a b c d h k l m = go (ltb a 0xF1) (ltb a 0xF4) refl refl
  where
    go : (p q : Bool) → ltb a 0xF1 ≡ p → ltb a 0xF4 ≡ q → Char (a ∷ b ∷ c ∷ d ∷ [])
    go true q e f =
        let x : In 0xF0 0xF0 a = omega (arith, ltb-true a 0xF1 e) in
        four_F0 {b = b} x (omega (arith, row_F0 a x)) l m
    go false true e f =
        let x : In 0xF1 0xF3 a = omega (arith, ltb-false a 0xF1 e, ltb-true a 0xF4 f) in
        four_F1 {b = b} x (omega (arith, row_F1 a x)) l m
    go false false e f =
        let x : In 0xF4 0xF4 a = omega (arith, ltb-false a 0xF4 f) in
        four_F4 {b = b} x (omega (arith, row_F4 a x)) l m

-- the first n bytes of s, all there, are a character
pub record Starts (s : List ℕ) (n : ℕ) : Type 0 where
  pub within : n ≤ length s
  pub char : Char (take n s)

starts_2 : (s : List ℕ) → In 0xC0 0xDF (get_or s 0 0) → 2 ≤ length s → pair s ≡ true → Starts s 2
starts_2 [] h n e = absurd (omega arith)
starts_2 (a ∷ []) h n e = absurd (omega arith)
starts_2 (a ∷ b ∷ t) h n e =
    let x : In 0xC2 0xDF a = omega (arith, leb-true 0xC2 a (and_left (leb 0xC2 a) (tail b) e)) in
    record { within = n; char = two x (true_tail b (and_right (leb 0xC2 a) (tail b) e)) }

starts_3 : (s : List ℕ) → In 0xE0 0xEF (get_or s 0 0) → 3 ≤ length s → triple s ≡ true → Starts s 3
starts_3 [] h n e = absurd (omega arith)
starts_3 (a ∷ []) h n e = absurd (omega arith)
starts_3 (a ∷ b ∷ []) h n e = absurd (omega arith)
starts_3 (a ∷ b ∷ c ∷ t) h n e =
    record { within = n; char = char_3 a b c h (true_second a b (and_left (second a b) (tail c) e)) (true_tail c (and_right (second a b) (tail c) e)) }

starts_4 : (s : List ℕ) → In 0xF0 0xF7 (get_or s 0 0) → 4 ≤ length s → quadruple s ≡ true → Starts s 4
starts_4 [] h n e = absurd (omega arith)
starts_4 (a ∷ []) h n e = absurd (omega arith)
starts_4 (a ∷ b ∷ []) h n e = absurd (omega arith)
starts_4 (a ∷ b ∷ c ∷ []) h n e = absurd (omega arith)
starts_4 (a ∷ b ∷ c ∷ d ∷ t) h n e =
    let x : In 0xF0 0xF4 a = omega (arith, leb-true a 0xF4 (and_left (leb a 0xF4) _ e)) in
    let e₁ = and_right (leb a 0xF4) (second a b && (tail c && tail d)) e in
    let e₂ = and_right (second a b) (tail c && tail d) e₁ in
    let y = true_second a b (and_left (second a b) (tail c && tail d) e₁) in
    record { within = n; char = char_4 a b c d x y (true_tail c (and_left (tail c) (tail d) e₂)) (true_tail d (and_right (tail c) (tail d) e₂)) }

-- where the answer is not 0, the test was passed
passed : (s : List ℕ) (n : ℕ) (b : Bool) → (n ≤ length s → b ≡ true → Starts s n) → (passing n b s ≡ 0 → ⊥) → Starts s (passing n b s)
passed s n b f h = go (leb n (length s)) b refl refl
  where
    go : (p q : Bool) → leb n (length s) ≡ p → b ≡ q → Starts s (passing n b s)
    go true true e d = rw (e, d) (f (leb-true n (length s) e) d)
    go true false e d = absurd (h (rw (e, d)))
    go false q e d = absurd (h (rw e))

counted_starts : (a n : ℕ) (s : List ℕ) → Count a n → (counted n (a ∷ s) ≡ 0 → ⊥) → Starts (a ∷ s) (counted n (a ∷ s))
unfolding counted two' three' four'
counted_starts a n s (c0 h) k = record { within = omega arith; char = one {a = a} (omega arith) }
counted_starts a n s c1 k = absurd (k refl)
counted_starts a n s (c2 h) k = passed (a ∷ s) 2 (pair (a ∷ s)) (starts_2 (a ∷ s) h) k
counted_starts a n s (c3 h) k = passed (a ∷ s) 3 (triple (a ∷ s)) (starts_3 (a ∷ s) h) k
counted_starts a n s (c4 h) k = passed (a ∷ s) 4 (quadruple (a ∷ s)) (starts_4 (a ∷ s) h) k
counted_starts a n s (c5 h) k =
    absurd (k (rw (ne_eqb n 0 (λ e. omega arith), ne_eqb n 2 (λ e. omega arith), ne_eqb n 3 (λ e. omega arith), ne_eqb n 4 (λ e. omega arith))))

pub width_starts : (s : List ℕ) → (width s ≡ 0 → ⊥) → Starts s (width s)
unfolding width
width_starts [] h = absurd (h refl)
width_starts (a ∷ s) h = counted_starts a (ones a) s (count a) h

-- ---- characters in a row of bytes

-- no character begins s
abbrev pub NoChar : List ℕ → Type 0
NoChar s = (c t : List ℕ) → Char c → s ≡ c ++ t → ⊥

pub char_length : {c : List ℕ} → Char c → 0 < length c
char_length (one h) = omega arith
char_length (two h k) = omega arith
char_length (three_E0 h k l) = omega arith
char_length (three_E1 h k l) = omega arith
char_length (three_ED h k l) = omega arith
char_length (three_EE h k l) = omega arith
char_length (four_F0 h k l m) = omega arith
char_length (four_F1 h k l m) = omega arith
char_length (four_F4 h k l m) = omega arith

-- a character's first byte is no tail
pub char_lead : {c : List ℕ} → Char c → (t : List ℕ) → Tail (get_or (c ++ t) 0 0) → ⊥
char_lead (one h) t x = omega arith
char_lead (two h k) t x = omega arith
char_lead (three_E0 h k l) t x = omega arith
char_lead (three_E1 h k l) t x = omega arith
char_lead (three_ED h k l) t x = omega arith
char_lead (three_EE h k l) t x = omega arith
char_lead (four_F0 h k l m) t x = omega arith
char_lead (four_F1 h k l m) t x = omega arith
char_lead (four_F4 h k l m) t x = omega arith

-- and each later one is
data Tails : List ℕ → Type 0 where
  end : Tails []
  next : {x : ℕ} {s : List ℕ} → Tail x → Tails s → Tails (x ∷ s)

char_tails : {c : List ℕ} → Char c → Tails (drop 1 c)
char_tails (one h) = end
char_tails (two h k) = next k end
char_tails (three_E0 {b = b} h k l) = next {x = b} (omega arith) (next l end)
char_tails (three_E1 h k l) = next k (next l end)
char_tails (three_ED {b = b} h k l) = next {x = b} (omega arith) (next l end)
char_tails (three_EE h k l) = next k (next l end)
char_tails (four_F0 {b = b} h k l m) = next {x = b} (omega arith) (next l (next m end))
char_tails (four_F1 h k l m) = next k (next l (next m end))
char_tails (four_F4 {b = b} h k l m) = next {x = b} (omega arith) (next l (next m end))

tails_at : {s : List ℕ} → Tails s → (i : ℕ) → i < length s → Tail (get_or s i 0)
tails_at end i h = absurd (not-suc-le-zero h)
tails_at (next k r) zero h = k
tails_at (next k r) (suc i) h = tails_at r i (le_of_suc-le-suc h)

pub char_inner : {c : List ℕ} → Char c → (i : ℕ) → 0 < i → i < length c → Tail (get_or c i 0)
char_inner {c} h i l k = go c i (char_tails h) l k
  where
    go : (c : List ℕ) (i : ℕ) → Tails (drop 1 c) → 0 < i → i < length c → Tail (get_or c i 0)
    go [] i r l k = absurd (not-suc-le-zero k)
    go (a ∷ s) zero r l k = absurd (not-suc-le-zero l)
    go (a ∷ s) (suc i) r l k = tails_at r i (le_of_suc-le-suc k)
