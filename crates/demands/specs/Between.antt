-- A part of a valid text begins and ends between characters, so that the second part is a text again (section 4's without-rowid text).
-- A White_Space character is a character, and its first byte is no tail. So all bytes of a character of a text bear the same mark: true where it is
-- White_Space, else false. A part is a longest run of false, so it is a row of whole characters.
use Rattle.std.specs.Prelude.{ℕ, zero, suc, Some, ◌+◌, ◌-◌, ◌≤◌, ◌<◌, ◌≡◌, refl, Bool, true, false, cond, ◌&&◌, eqb, ltb, length, take, drop, replicate}
use Rattle.std.proofs.lemmas.Option.{get_or_from_slice_get}
use Rattle.std.proofs.Common.{arith, ap, ap₂, sym, length-append, take-add, eqb-true, ltb-true, ltb-false}
use mathlib.Core.List.{List, [], ◌∷◌, ◌++◌, append_assoc, Memᴰ}
use Rattle.std.proofs.lemmas.Bool.{false≢true}
use Rattle.std.proofs.lemmas.List.{take-append-le}
use Rattle.std.proofs.Math.Seq.{take-append_seam, take-length}
use Rattle.laws.specs.Among.{all}
use Rattle.laws.specs.Tests.{and_left, and_right}
use Rattle.utf8.specs.Rfc3629.{In, Tail, Char, one, two, three_E0, three_E1, three_ED, three_EE, four_F0, four_F1, four_F4, Text, none, more}
use Rattle.utf8.specs.Scan.{ones, low, high, width, counted}
use Rattle.utf8.specs.Scan.{two as two', three as three', four as four'}
use Rattle.utf8.specs.Characters.{width_starts, char_length, char_lead}
use Rattle.utf8.proofs.Characters.{char_prefix}
use Rattle.utf8.specs.Laws.{text_append, text_char}
use Rattle.utf8.proofs.Laws.{text_rest}
use Rattle.white.specs.White.{white_space, encode, begins, length_among, white_length}
use Rattle.white.specs.Parts.{Span, span, marks, closed, runs, parts, second, split_of}

-- ---- White_Space characters are characters
is_char : ℕ → Bool
is_char d = ltb 0 (width (encode d)) && eqb (width (encode d)) (length (encode d))

all_chars : all is_char white_space ≡ true
unfolding is_char width counted ones two' three' four' low high
all_chars = refl

is_char_lem : (d : ℕ) → is_char d ≡ true → Char (encode d)
unfolding is_char
is_char_lem d h =
    let w = width (encode d) in
    let l = ltb-true 0 w (and_left (ltb 0 w) (eqb w (length (encode d))) h) in
    let e = eqb-true w (length (encode d)) (and_right (ltb 0 w) (eqb w (length (encode d))) h) in
    rw (e, take-length (encode d)) at (width_starts (encode d) (λ z. omega arith)).char

-- what bytes that begin with x go on with
begins_with : (s x : List ℕ) → begins s x ≡ true → (u : List ℕ) × (s ≡ x ++ u)
begins_with s [] h = (s, refl)
begins_with [] (a ∷ x) h = absurd (false≢true h)
begins_with (b ∷ s) (a ∷ x) h =
    let r = begins_with s x (and_right (eqb b a) (begins s x) h) in
    (r.0, ap₂ (λ (y : ℕ) (l : List ℕ). y ∷ l) (eqb-true b a (and_left (eqb b a) (begins s x) h)) r.1)

-- where a character begins the bytes, White_Space is that character or none
length_of : {c : List ℕ} → Char c → (s : List ℕ) (ds : List ℕ) → all is_char ds ≡ true → 0 < length_among (c ++ s) ds → length_among (c ++ s) ds ≡ length c
unfolding length_among
length_of k s [] a h = absurd (omega arith)
length_of {c} k s (d ∷ ds) a h = by (begins (c ++ s) (encode d)) refl h (length_of k s ds (and_right (is_char d) (all is_char ds) a))
  where
    by : (b : Bool) → begins (c ++ s) (encode d) ≡ b → 0 < cond b (length (encode d)) (length_among (c ++ s) ds) → (0 < length_among (c ++ s) ds → length_among (c ++ s) ds ≡ length c)
        → cond b (length (encode d)) (length_among (c ++ s) ds) ≡ length c
    by true e l rest =
        let u = begins_with (c ++ s) (encode d) e in
        ap length (sym (char_prefix k (is_char_lem d (and_left (is_char d) (all is_char ds) a)) s u.0 u.1))
    by false e l rest = rest l

-- and none begins with a tail
no_length : (b : ℕ) (s : List ℕ) → Tail b → (ds : List ℕ) → all is_char ds ≡ true → length_among (b ∷ s) ds ≡ 0
unfolding length_among
no_length b s t [] a = refl
no_length b s t (d ∷ ds) a = by (begins (b ∷ s) (encode d)) refl (no_length b s t ds (and_right (is_char d) (all is_char ds) a))
  where
    by : (q : Bool) → begins (b ∷ s) (encode d) ≡ q → length_among (b ∷ s) ds ≡ 0 → cond q (length (encode d)) (length_among (b ∷ s) ds) ≡ 0
    by true e rest =
        let u = begins_with (b ∷ s) (encode d) e in
        absurd (char_lead (is_char_lem d (and_left (is_char d) (all is_char ds) a)) u.0 (rw (← u.1) t))
    by false e rest = rest

-- ---- the marks of a character
AllTails : List ℕ → Type 0
AllTails [] = Unit {0}
AllTails (b ∷ x) = Tail b × AllTails x

-- a first byte, and tails behind it
data Led : List ℕ → Type 0 where
  tails : {a : ℕ} (x : List ℕ) → AllTails x → Led (a ∷ x)

wide : {a b x : ℕ} → In a b x → 0x80 ≤ a → b ≤ 0xBF → Tail x
wide i h k = record { low = omega (arith, i.low); high = omega (arith, i.high) }

led : {c : List ℕ} → Char c → Led c
unfolding AllTails
led (one i) = tails [] tt
led (two {b = b} i j) = tails (b ∷ []) (j, tt)
led (three_E0 {b = b} {c = c} i j k) = tails (b ∷ c ∷ []) (wide j (omega arith) (omega arith), (k, tt))
led (three_E1 {b = b} {c = c} i j k) = tails (b ∷ c ∷ []) (j, (k, tt))
led (three_ED {b = b} {c = c} i j k) = tails (b ∷ c ∷ []) (wide j (omega arith) (omega arith), (k, tt))
led (three_EE {b = b} {c = c} i j k) = tails (b ∷ c ∷ []) (j, (k, tt))
led (four_F0 {b = b} {c = c} {d = d} i j k l) = tails (b ∷ c ∷ d ∷ []) (wide j (omega arith) (omega arith), (k, (l, tt)))
led (four_F1 {b = b} {c = c} {d = d} i j k l) = tails (b ∷ c ∷ d ∷ []) (j, (k, (l, tt)))
led (four_F4 {b = b} {c = c} {d = d} i j k l) = tails (b ∷ c ∷ d ∷ []) (wide j (omega arith) (omega arith), (k, (l, tt)))

-- bytes that are still to come of a White_Space character, and tails of another
marks_white : (x s : List ℕ) → marks (length x) (x ++ s) ≡ replicate (length x) true ++ marks 0 s
unfolding marks
marks_white [] s = refl
marks_white (b ∷ x) s = ap (λ (l : List Bool). true ∷ l) (marks_white x s)

marks_tails : (x s : List ℕ) → AllTails x → marks 0 (x ++ s) ≡ replicate (length x) false ++ marks 0 s
unfolding marks white_length AllTails
marks_tails [] s t = refl
marks_tails (b ∷ x) s t = rw (no_length b (x ++ s) t.0 white_space all_chars) (ap (λ (l : List Bool). false ∷ l) (marks_tails x s t.1))

-- all bytes of a character bear one mark
marks_led : {c : List ℕ} → Led c → Char c → (s : List ℕ) → marks 0 (c ++ s) ≡ replicate (length c) (ltb 0 (white_length (c ++ s))) ++ marks 0 s
unfolding marks white_length
marks_led (tails {a} x t) k s = by (ltb 0 w) refl
  where
    w : ℕ
    w = white_length ((a ∷ x) ++ s)

    by : (b : Bool) → ltb 0 w ≡ b → b ∷ marks (w - 1) (x ++ s) ≡ b ∷ (replicate (length x) b ++ marks 0 s)
    by true q =
        let l : w ≡ suc (length x) = length_of k s white_space all_chars (ltb-true 0 w q) in
        let z : w - 1 ≡ length x = omega arith in
        ap (λ (m : List Bool). true ∷ m) (rw z (marks_white x s))
    by false q =
        let l = ltb-false 0 w q in
        let z : w - 1 ≡ 0 = omega arith in
        ap (λ (m : List Bool). false ∷ m) (rw z (marks_tails x s t))

-- ---- the runs of marks
runs_true : (k i n : ℕ) (ms : List Bool) → 0 < k → runs i n (replicate k true ++ ms) ≡ closed i n ++ runs (i + k) 0 ms
unfolding runs
runs_true zero i n ms h = absurd (omega arith)
runs_true (suc zero) i n ms h = refl
runs_true (suc (suc k)) i n ms h =
    let z : i + 1 + suc k ≡ i + suc (suc k) = omega arith in
    rw (← z) (ap (λ (ps : List Span). closed i n ++ ps) (runs_true (suc k) (i + 1) 0 ms (omega arith)))

runs_false : (k i n : ℕ) (ms : List Bool) → runs i n (replicate k false ++ ms) ≡ runs (i + k) (n + k) ms
unfolding runs
runs_false zero i n ms = let z : i + 0 ≡ i = omega arith in let y : n + 0 ≡ n = omega arith in rw (z, y)
runs_false (suc k) i n ms =
    let z : i + 1 + k ≡ i + suc k = omega arith in
    let y : n + 1 + k ≡ n + suc k = omega arith in
    rw (← z, ← y) (runs_false k (i + 1) (n + 1) ms)

-- ---- the parts
-- a span that begins and ends between characters: what stands before it, and what stands before its end, is a text
pub record CutBetween (s : List ℕ) (p : Span) : Type 0 where
  pub start : Text (take p.start s)
  pub end : Text (take (p.start + p.len) s)

data Each (s : List ℕ) : List Span → Type 0 where
  no_more : Each s []
  also : {p : Span} {ps : List Span} → CutBetween s p → Each s ps → Each s (p ∷ ps)

each_append : {s : List ℕ} {ps qs : List Span} → Each s ps → Each s qs → Each s (ps ++ qs)
each_append no_more f = f
each_append (also b e) f = also b (each_append e f)

-- what stands before place i is a text a, and so is what stands before the last n bytes of it
closed_between : (a s : List ℕ) (n : ℕ) → n ≤ length a → Text a → Text (take (length a - n) a) → Each (a ++ s) (closed (length a) n)
closed_between a s zero l t h = no_more
closed_between a s (suc n) l t h =
    let z : length a - suc n + suc n ≡ length a = omega arith in
    also {p = span (length a - suc n) (suc n)} (record { start = rw (take-append-le (length a - suc n) a s (omega arith)) h; end = rw (z, take-append_seam a s) t }) no_more

along : {s : List ℕ} → Text s → {a : List ℕ} → Text a → (n : ℕ) → n ≤ length a → Text (take (length a - n) a) → Each (a ++ s) (runs (length a) n (marks 0 s))
unfolding runs marks
along none {a} t n l h = closed_between a [] n l t h
along (more {c} {s} k r) {a} t n l h =
    rw (marks_led (led k) k s) (by (ltb 0 (white_length (c ++ s))) (λ m p q. rw (append_assoc a c s, length-append a c) at (along r (text_append t (text_char k)) m p q)))
  where
    by : (b : Bool) → ((m : ℕ) → m ≤ length (a ++ c) → Text (take (length (a ++ c) - m) (a ++ c)) → Each (a ++ (c ++ s)) (runs (length a + length c) m (marks 0 s)))
        → Each (a ++ (c ++ s)) (runs (length a) n (replicate (length c) b ++ marks 0 s))
    by true rest =
        let z : length (a ++ c) - 0 ≡ length (a ++ c) = omega arith in
        rw (runs_true (length c) (length a) n (marks 0 s) (char_length k))
        (each_append (closed_between a (c ++ s) n l t h) (rest 0 (omega arith) (rw (z, take-length (a ++ c)) (text_append t (text_char k)))))
    by false rest =
        let e = length-append a c in
        let z : length (a ++ c) - (n + length c) ≡ length a - n = omega arith in
        rw (runs_false (length c) (length a) n (marks 0 s)) (rest (n + length c) (omega arith) (rw (z, take-append-le (length a - n) a c (omega arith)) h))

all_between : {s : List ℕ} → Text s → Each s (parts s)
unfolding parts
all_between t = along t none 0 (omega arith) none

-- each part of a text begins and ends between characters
pub part_between : {s : List ℕ} {p : Span} → Text s → Memᴰ p (parts s) → CutBetween s p
part_between {s} {p} t m = of_each (all_between t) m
  where
    of_each : {ps : List Span} → Each s ps → Memᴰ p ps → CutBetween s p
    of_each no_more k = elim k [ ]
    of_each (also b e) (Memᴰ.head i) = rw i b
    of_each (also b e) (Memᴰ.tail k) = of_each e k

-- so it is a text
pub between_text : {s : List ℕ} {p : Span} → CutBetween s p → Text (take p.len (drop p.start s))
between_text {s} {p} b = text_rest b.start (take p.len (drop p.start s)) (rw take-add at b.end)

-- and the second part is: where there is none, it is empty
pub second_text : {s : List ℕ} → Text s → Text (take (second (parts s)).len (drop (second (parts s)).start s))
second_text {s} t = between_text (of_second (all_between t))
  where
    of_second : {ps : List Span} → Each s ps → CutBetween s (second ps)
    of_second no_more = record { start = none; end = none }
    of_second (also b no_more) = record { start = none; end = none }
    of_second (also b (also d e)) = d

-- and so is the one that white::split gives
pub second_given : {s : List ℕ} (p : Span) → Text s → (split_of s).second ≡ Some p → Text (take p.len (drop p.start s))
unfolding split_of
second_given {s} p t e = rw (get_or_from_slice_get (parts s) 1 p (span 0 0) e) at (second_text {s = s} t)
