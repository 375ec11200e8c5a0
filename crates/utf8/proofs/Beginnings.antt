-- The test for a proper beginning of a character is the RFC's: it passes exactly where some character goes on with the bytes.
-- A character has as many bytes as its first one says, its second is in the first one's range, and the others are tails (`said`, `ranged`,
-- `char_inner`); and where the bytes pass, the least second byte and tails go on with them. Assumes nothing.
use Rattle.std.specs.Prelude.{ℕ, ◌≤◌, ◌<◌, ◌≡◌, refl, List, [], ◌∷◌, ◌++◌, Bool, true, false, leb, ltb, eqb, length, drop, get_or}
use Rattle.std.proofs.Common.{◌∙◌, sym, arith, length-append, leb-true, leb-false, le-ltb, eqb-true, ltb-true, ltb-false, ne_eqb}
use Rattle.std.proofs.lemmas.Bool.{false≢true, lt-leb, eqb-false}
use Rattle.std.proofs.Math.ListN.{get_or-append}
use Rattle.laws.specs.Below.{at}
use Rattle.laws.specs.Tests.{and_left, and_right, and_both}
use Rattle.utf8.specs.Rfc3629.{In, Tail, tail, Ends, Encoded, Char, one, two, three_E0, three_E1, three_ED, three_EE, four_F0, four_F1, four_F4, Begins}
use Rattle.utf8.specs.Scan.{ones, low, high, second, triple, long, begins, broken_at}
use Rattle.utf8.specs.Characters.{tail_true, true_tail, ones_2, ones_3, ones_4, true_second, char_3, char_4, char_inner}
use Rattle.utf8.specs.Beginnings.{ranged, Lead, lead_2, lead_3, lead_4}

-- ---- a character's first byte says its length, and where the second may be

long_of : (a n : ℕ) → In 0xC2 0xF4 a → ones a ≡ n → long a ≡ n
unfolding long
long_of a n h e = rw (le-ltb a 0xC2 h.low, le-ltb 0xF4 a h.high) e

said : {c : List ℕ} → Char c → 1 < length c → long (get_or c 0 0) ≡ length c
said (one h) l = absurd (omega arith)
said (two {a} h k) l = long_of a 2 (omega arith) (ones_2 a (omega arith))
said (three_E0 {a} h k m) l = long_of a 3 (omega arith) (ones_3 a (omega arith))
said (three_E1 {a} h k m) l = long_of a 3 (omega arith) (ones_3 a (omega arith))
said (three_ED {a} h k m) l = long_of a 3 (omega arith) (ones_3 a (omega arith))
said (three_EE {a} h k m) l = long_of a 3 (omega arith) (ones_3 a (omega arith))
said (four_F0 {a} h k m n) l = long_of a 4 (omega arith) (ones_4 a (omega arith))
said (four_F1 {a} h k m n) l = long_of a 4 (omega arith) (ones_4 a (omega arith))
said (four_F4 {a} h k m n) l = long_of a 4 (omega arith) (ones_4 a (omega arith))

-- ---- a proper beginning passes

pub begins_true : (s : List ℕ) → Begins s → begins s ≡ true
unfolding begins
begins_true s b = by (eqb (length s) 1) (eqb (length s) 2) refl refl
  where
    whole : List ℕ
    whole = s ++ b.missing

    longer : length s < length whole
    longer = let e = length-append s b.missing in let h = b.short in omega arith

    same : (i : ℕ) → i < length s → get_or whole i 0 ≡ get_or s i 0
    same i l = get_or-append s b.missing 0 i l

    fewer : length s < long (get_or s 0 0)
    fewer = rw (← same 0 b.some, said b.char (let h = b.some in let k = longer in omega arith)) longer

    ranged_here : 1 < length s → second (get_or s 0 0) (get_or s 1 0) ≡ true
    ranged_here l = rw (← same 0 (omega arith), ← same 1 l) (ranged b.char (let k = longer in omega arith))

    fits : leb (long (get_or s 0 0)) (length s) ≡ false
    fits = lt-leb (long (get_or s 0 0)) (length s) fewer

    some : eqb (length s) 0 ≡ false
    some = ne_eqb (length s) 0 (λ e. let h = b.some in omega arith)

    by : (p q : Bool) → eqb (length s) 1 ≡ p → eqb (length s) 2 ≡ q → begins s ≡ true
    by true q e f = rw (some, fits, e)
    by false true e f = rw (some, fits, e, f) (ranged_here (omega (arith, eqb-true (length s) 2 f)))
    by false false e f =
        let h = b.some in
        let l : 2 < length s = omega (arith, eqb-false (length s) 1 e, eqb-false (length s) 2 f) in
        let k = longer in
        let t = tail_true (get_or s 2 0) (rw (same 2 l) at (char_inner b.char 2 (omega arith) (omega arith))) in
        rw (some, fits, e, f) (and_both (second (get_or s 0 0) (get_or s 1 0)) (tail (get_or s 2 0)) (ranged_here (omega arith)) t)

lead : (a : ℕ) → 1 < long a → Lead a (long a)
unfolding long
lead a l = go (ltb a 0xC2) (ltb 0xF4 a) (ltb a 0xE0) (ltb a 0xF0) refl refl refl refl
  where
    go : (p q r s : Bool) → ltb a 0xC2 ≡ p → ltb 0xF4 a ≡ q → ltb a 0xE0 ≡ r → ltb a 0xF0 ≡ s → Lead a (long a)
    go true q r s e f g h = let z : long a ≡ 1 = rw e in absurd (omega arith)
    go false true r s e f g h = let z : long a ≡ 1 = rw (e, f) in absurd (omega arith)
    go false false true s e f g h =
        let x : In 0xC2 0xDF a = omega (arith, ltb-false a 0xC2 e, ltb-true a 0xE0 g) in
        rw (long_of a 2 (omega arith) (ones_2 a (omega arith))) (lead_2 x)
    go false false false true e f g h =
        let x : In 0xE0 0xEF a = omega (arith, ltb-false a 0xE0 g, ltb-true a 0xF0 h) in
        rw (long_of a 3 (omega arith) (ones_3 a (omega arith))) (lead_3 x)
    go false false false false e f g h =
        let x : In 0xF0 0xF4 a = omega (arith, ltb-false a 0xF0 h, ltb-false 0xF4 a f) in
        rw (long_of a 4 (omega arith) (ones_4 a (omega arith))) (lead_4 x)

-- after every lead some byte may come second: the test of all bytes is computed
least : (a : ℕ) → a ≤ 0xF4 → In (low a) (high a) (low a)
unfolding low high
least a h = record { low = omega arith; high = leb-true (low a) (high a) (at (λ x. leb (low x) (high x)) 0xF5 refl a (omega arith)) }

some_tail : Tail 0x80
some_tail = record { low = omega arith; high = omega arith }

-- fewer bytes than the first says
fewer : (a : ℕ) (t : List ℕ) → begins (a ∷ t) ≡ true → length (a ∷ t) < long a
unfolding begins
fewer a t e = by (leb (long a) (length (a ∷ t))) refl
  where
    by : (p : Bool) → leb (long a) (length (a ∷ t)) ≡ p → length (a ∷ t) < long a
    by true f = absurd (false≢true (rw (ne_eqb (length (a ∷ t)) 0 (λ z. omega arith), f) at e))
    by false f = leb-false (long a) (length (a ∷ t)) f

true_begins : (s : List ℕ) → begins s ≡ true → Begins s
unfolding begins
true_begins [] e = absurd (false≢true e)
true_begins (a ∷ []) e = by (long a) (fewer a [] e) (lead a (let h = fewer a [] e in omega arith))
  where
    by : (n : ℕ) → 1 < n → Lead a n → Begins (a ∷ [])
    by n l (lead_2 h) = record { some = omega arith; missing = 0x80 ∷ []; short = omega arith; char = two h some_tail }
    by n l (lead_3 h) =
        record { some = omega arith; missing = low a ∷ 0x80 ∷ []; short = omega arith; char = char_3 a (low a) 0x80 h (least a (omega arith)) some_tail }
    by n l (lead_4 h) =
        record { some = omega arith; missing = low a ∷ 0x80 ∷ 0x80 ∷ []; short = omega arith; char = char_4 a (low a) 0x80 0x80 h (least a (omega arith)) some_tail some_tail }
true_begins (a ∷ b ∷ []) e = by (long a) (fewer a (b ∷ []) e) (lead a (let h = fewer a (b ∷ []) e in omega arith))
  where
    second_in : In (low a) (high a) b
    second_in = true_second a b (rw (lt-leb (long a) 2 (fewer a (b ∷ []) e)) at e)

    by : (n : ℕ) → 2 < n → Lead a n → Begins (a ∷ b ∷ [])
    by n l (lead_2 h) = absurd (omega arith)
    by n l (lead_3 h) = record { some = omega arith; missing = 0x80 ∷ []; short = omega arith; char = char_3 a b 0x80 h second_in some_tail }
    by n l (lead_4 h) =
        record { some = omega arith; missing = 0x80 ∷ 0x80 ∷ []; short = omega arith; char = char_4 a b 0x80 0x80 h second_in some_tail some_tail }
true_begins (a ∷ b ∷ c ∷ []) e = by (long a) (fewer a (b ∷ c ∷ []) e) (lead a (let h = fewer a (b ∷ c ∷ []) e in omega arith))
  where
    both : triple (a ∷ b ∷ c ∷ []) ≡ true
    both = rw (lt-leb (long a) 3 (fewer a (b ∷ c ∷ []) e)) at e

    by : (n : ℕ) → 3 < n → Lead a n → Begins (a ∷ b ∷ c ∷ [])
    by n l (lead_2 h) = absurd (omega arith)
    by n l (lead_3 h) = absurd (omega arith)
    by n l (lead_4 h) =
        record {
          some = omega arith;
          missing = 0x80 ∷ [];
          short = omega arith;
          char = char_4 a b c 0x80 h (true_second a b (and_left (second a b) (tail c) both)) (true_tail c (and_right (second a b) (tail c) both)) some_tail;
        }
true_begins (a ∷ b ∷ c ∷ d ∷ t) e = by (long a) (fewer a (b ∷ c ∷ d ∷ t) e) (lead a (let h = fewer a (b ∷ c ∷ d ∷ t) e in omega arith))
  where
    by : (n : ℕ) → length (a ∷ b ∷ c ∷ d ∷ t) < n → Lead a n → Begins (a ∷ b ∷ c ∷ d ∷ t)
    by n l (lead_2 h) = absurd (omega arith)
    by n l (lead_3 h) = absurd (omega arith)
    by n l (lead_4 h) = absurd (omega arith)

-- ---- what is said of the bytes from the place on is so
pub broken_encoded : (s : List ℕ) (p : ℕ) → Ends s p → Encoded s (broken_at (drop p s) p)
unfolding broken_at
broken_encoded s p h = by (begins (drop p s)) refl
  where
    by : (b : Bool) → begins (drop p s) ≡ b → Encoded s (broken_at (drop p s) p)
    by true e = rw e (h, true_begins (drop p s) e)
    by false e = rw e (h, λ k. false≢true (sym e ∙ begins_true (drop p s) k))
