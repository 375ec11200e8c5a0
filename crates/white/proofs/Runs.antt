-- How the parts of what is left go on: over a White_Space character, over a byte of a part, and at a part's end.
use Prim.Native.Nat.{ℕ, zero, suc, ◌+◌, ◌-◌, ◌≤◌, ◌<◌}
use native.Mathlib.Omega.{arith}
use native.Mathlib.Nat.{not-suc-le-zero, le_of_suc-le-suc}
use native.Mathlib.Numerals.{add-one}
use mathlib.Core.Path.{◌≡◌, refl, sym, ap}
use mathlib.Core.List.{List, [], ◌∷◌, ◌++◌}
use mathlib.Core.Bool.{Bool, true, false, cond, false≢true}
use lib.ListN.{length, get_or, drop, replicate, length-drop, drop_of_length-le}
use lib.Seq.{drop-cons, drop-drop}
use lib.Dec.{ltb, eqb}
use borrow.Author.Tests.{lt-ltb}
use Rattle.laws.specs.Tests.{and_parts}
use Rattle.white.specs.White.{white_length, white_space, encode, begins, length_among}
use Rattle.white.specs.Parts.{span, marks, closed, runs}
use Rattle.white.specs.Steps.{parts_from}

-- a character that a text begins with is no longer than the text
begins_le : (s e : List ℕ) → begins s e ≡ true → length e ≤ length s
begins_le s [] h = omega arith
begins_le [] (x ∷ xs) h = absurd (false≢true h)
begins_le (b ∷ s) (x ∷ xs) h = let l = begins_le s xs (and_parts (eqb b x) (begins s xs) h).1 in omega arith

among_le : (s cs : List ℕ) → length_among s cs ≤ length s
unfolding length_among
among_le s [] = omega arith
among_le s (c ∷ cs) = by (begins s (encode c)) refl (among_le s cs)
  where
    by : (b : Bool) → begins s (encode c) ≡ b → length_among s cs ≤ length s → cond b (length (encode c)) (length_among s cs) ≤ length s
    by true e r = begins_le s (encode c) e
    by false e r = r

pub white_le : (s : List ℕ) (i : ℕ) → white_length (drop i s) ≤ length s - i
unfolding white_length
white_le s i = rw (← length-drop) (among_le (drop i s) white_space)

-- the marks of a character that is read, and of what stands behind it
marks_over : (k : ℕ) (s : List ℕ) → k ≤ length s → marks k s ≡ replicate k true ++ marks 0 (drop k s)
unfolding marks
marks_over zero s h = refl
marks_over (suc k) [] h = absurd (not-suc-le-zero h)
marks_over (suc k) (b ∷ s) h = ap (λ (m : List Bool). true ∷ m) (marks_over k s (le_of_suc-le-suc h))

runs_over : (k i : ℕ) (ms : List Bool) → runs i 0 (replicate k true ++ ms) ≡ runs (i + k) 0 ms
unfolding runs
runs_over zero i ms = let e : i + 0 ≡ i = omega arith in rw e
runs_over (suc k) i ms = let e : i + suc k ≡ i + 1 + k = omega arith in rw e (runs_over k (i + 1) ms)

white_marks : (s : List ℕ) → 0 < white_length s → white_length s ≤ length s → marks 0 s ≡ replicate (white_length s) true ++ marks 0 (drop (white_length s) s)
unfolding marks
white_marks [] h l = let no : ⊥ = omega arith in absurd no
white_marks (b ∷ s) h l = by (white_length (b ∷ s)) h l
  where
    by : (n : ℕ) → 0 < n → n ≤ suc (length s) → ltb 0 n ∷ marks (n - 1) s ≡ replicate n true ++ marks 0 (drop n (b ∷ s))
    by zero h l = absurd (not-suc-le-zero h)
    by (suc n) h l = let e : suc n - 1 ≡ n = omega arith in rw (lt-ltb 0 (suc n) h, e) (ap (λ (m : List Bool). true ∷ m) (marks_over n s (le_of_suc-le-suc l)))

-- over a White_Space character
pub over_white : (s : List ℕ) (i n : ℕ) → n ≡ white_length (drop i s) → 0 < n → i ≤ length s → parts_from s (i + n) 0 ≡ parts_from s i 0
unfolding parts_from
over_white s i n e h l =
    let w = white_le s i in
    sym (rw (white_marks (drop i s) (omega arith) (rw length-drop w), ← e, runs_over, drop-drop))

-- over a byte of a part
byte_marks : (s : List ℕ) (i : ℕ) → i < length s → white_length (drop i s) ≡ 0 → marks 0 (drop i s) ≡ false ∷ marks 0 (drop (i + 1) s)
unfolding marks
byte_marks s i h e =
    let d : drop i s ≡ get_or s i 0 ∷ drop (i + 1) s = rw (add-one, drop-cons s i 0) in
    let w : white_length (get_or s i 0 ∷ drop (i + 1) s) ≡ 0 = rw d at e in
    rw (d, w)

over_byte : (s : List ℕ) (i n : ℕ) → i < length s → white_length (drop i s) ≡ 0 → parts_from s (i + 1) (n + 1) ≡ parts_from s i n
unfolding parts_from runs
over_byte s i n h e = rw (byte_marks s i h e)

-- a part begins at `at`, and goes on
pub part_begins : (s : List ℕ) (at : ℕ) → at < length s → white_length (drop at s) ≡ 0 → parts_from s (at + 1) (at + 1 - at) ≡ parts_from s at 0
part_begins s at h e = let n : at + 1 - at ≡ 0 + 1 = omega arith in rw n (over_byte s at 0 h e)

pub part_goes_on : (s : List ℕ) (at i : ℕ) → i < length s → at < i → white_length (drop i s) ≡ 0 → parts_from s (i + 1) (i + 1 - at) ≡ parts_from s i (i - at)
part_goes_on s at i h l e = let n : i + 1 - at ≡ i - at + 1 = omega arith in rw n (over_byte s i (i - at) h e)

-- at the end of a part that began at `at`
closed_is : (at i : ℕ) → at < i → closed i (i - at) ≡ span at (i - at) ∷ []
closed_is at i h = by (i - at) (omega arith) (omega arith)
  where
    by : (n : ℕ) → 0 < n → i - n ≡ at → closed i n ≡ span at n ∷ []
    by zero h e = absurd (not-suc-le-zero h)
    by (suc n) h e = rw e

closes : (at i n : ℕ) (ms : List Bool) → at < i → 0 < n → runs i (i - at) (replicate n true ++ ms) ≡ span at (i - at) ∷ runs i 0 (replicate n true ++ ms)
unfolding runs
closes at i zero ms h l = absurd (not-suc-le-zero l)
closes at i (suc n) ms h l = rw (closed_is at i h)

pub at_white : (s : List ℕ) (at i n : ℕ) → at < i → n ≡ white_length (drop i s) → 0 < n → parts_from s i (i - at) ≡ span at (i - at) ∷ parts_from s i 0
unfolding parts_from
at_white s at i n h e l =
    let w = white_le s i in
    rw (white_marks (drop i s) (omega arith) (rw length-drop w)) (closes at i (white_length (drop i s)) (marks 0 (drop (white_length (drop i s)) (drop i s))) h (omega arith))

pub at_end : (s : List ℕ) (at i : ℕ) → at < i → length s ≤ i → parts_from s i (i - at) ≡ span at (i - at) ∷ parts_from s i 0
unfolding parts_from runs marks
at_end s at i h l = rw (drop_of_length-le s l, closed_is at i h)
