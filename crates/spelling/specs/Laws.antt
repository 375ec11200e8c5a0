-- Rules of the spelling table, each by one test that is computed over all of its rows, and a law that turns the test into the rule.
use Rattle.std.specs.Prelude.{ℕ, ◌+◌, ◌-◌, ◌/◌, ◌%◌, ◌≤◌, ◌<◌, ◌≡◌, refl, List, [], ◌∷◌, Bool, true, false, not, ◌&&◌, ◌||◌, eqb, leb, ltb, length, take, drop}
use Rattle.std.proofs.Common.{arith, suc-ne-zero, ◌∙◌, ap, sym, length-drop, length-take-le, le-leb, leb-true, leb-false, le-ltb, ltb-true, ltb-false, ne_eqb}
use Rattle.std.proofs.Math.Bool
use Rattle.std.proofs.Math.Bool.{and-false}
use Rattle.std.proofs.Math.ListN.{get_or-eq_default}
use Rattle.std.proofs.lemmas.Bool.{lt-leb}
use Rattle.laws.specs.Among.{all}
use Rattle.blank.specs.Blank.{blank}
use Rattle.laws.specs.Below.{below, at}
use Rattle.laws.specs.Bytes.{same, equal}
use Rattle.laws.specs.Tests.{beq}
use Rattle.spelling.specs.Rows.{unknown, rows}
use Rattle.spelling.specs.Spelling.{row, known, spelling}
use Rattle.spelling.specs.Table.{bytes, heads, row_of, spelling_in, within, rows_held, lengths}

abbrev pub count : ℕ
count = 256

-- past the table no token has the number
row_past : (k : ℕ) → count ≤ k → row k ≡ unknown
unfolding row rows
row_past k h = get_or-eq_default rows unknown h

-- a rule of every number: by the test below the count, and past it by hand
pub everywhere : (P : ℕ → Type 0) (k : ℕ) → (k < count → P k) → (count ≤ k → P k) → P k
everywhere P k lo hi = by (ltb k count) refl
  where
    by : (b : Bool) → ltb k count ≡ b → P k
    by true e = lo (ltb-true k count e)
    by false e = hi (ltb-false k count e)

-- R1: known are exactly 0 to 168, 185 to 193 and 255
abbrev pub ranged : ℕ → Bool
ranged k = (leb k 168 || (leb 185 k && leb k 193)) || eqb k 255

ranged_below : below (λ k. Bool.beq (ranged k) (known k)) count ≡ true
unfolding known row rows
ranged_below = refl

ranged_past : (k : ℕ) → count ≤ k → ranged k ≡ known k
unfolding known
ranged_past k h =
    rw (row_past k h, lt-leb k 168 (omega arith), lt-leb k 193 (omega arith), ne_eqb k 255 (λ e. omega arith), and-false)

pub ranged_known : (k : ℕ) → ranged k ≡ known k
ranged_known k =
    everywhere (λ n. ranged n ≡ known n) k
    (λ h. beq (ranged k) (known k) (at (λ n. Bool.beq (ranged n) (known n)) count ranged_below k h))
    (ranged_past k)

pub early_known : (k : ℕ) → k ≤ 168 → true ≡ known k
early_known k h = rw (le-leb k 168 h) at (ranged_known k)

pub late_known : (k : ℕ) → 168 < k → ((leb 185 k && leb k 193) || eqb k 255) ≡ known k
late_known k h = rw (lt-leb k 168 h) at (ranged_known k)

-- the lent pool spells every number as the rows do
spells_below : below (λ k. same (spelling_in bytes k) (spelling k)) count ≡ true
unfolding spelling_in row_of within bytes spelling row rows
spells_below = refl

pub row_none : (k : ℕ) → rows_held ≤ k → row_of k ≡ 0
unfolding row_of rows
row_none k h = get_or-eq_default (heads 0 (take rows_held rows)) 0 h

spells_past : (k : ℕ) → count ≤ k → spelling_in bytes k ≡ spelling k
unfolding spelling_in spelling within
spells_past k h = rw (row_past k h, row_none k (omega arith), le-leb 0 (length bytes) (omega arith))

pub spells : (k : ℕ) → spelling_in bytes k ≡ spelling k
spells k =
    everywhere (λ n. spelling_in bytes n ≡ spelling n) k
    (λ h. equal (spelling_in bytes k) (spelling k) (at (λ n. same (spelling_in bytes n) (spelling n)) count spells_below k h))
    (spells_past k)

-- past the rows nothing is spelled
silent_below : below (λ k. ltb k rows_held || same (spelling k) []) count ≡ true
unfolding spelling row rows
silent_below = refl

pub silent : (k : ℕ) → rows_held ≤ k → spelling k ≡ []
unfolding spelling
silent k h =
    everywhere (λ n. spelling n ≡ []) k
    (λ l. equal (spelling k) [] (rw (le-ltb k rows_held h) at (at (λ n. ltb n rows_held || same (spelling n) []) count silent_below k l)))
    (λ l. rw (row_past k l))

-- a part of a pool, by its row: there is no room for it, or it stands there; and a look-up is the part by the row of the number
module _ (t : List ℕ) (r : ℕ) where
  pub no_part : length t < r / lengths + r % lengths → [] ≡ within t (r / lengths) (r % lengths)
  unfolding within
  no_part h = rw (lt-leb (r / lengths + r % lengths) (length t) h)

  pub part_by_row : (n : ℕ) → n ≡ r / lengths + r % lengths → n ≤ length t → take (n - r / lengths) (drop (r / lengths) t) ≡ within t (r / lengths) (r % lengths)
  unfolding within
  part_by_row n p h =
      let q : n - r / lengths ≡ r % lengths = omega (arith, p) in
      rw (le-leb (r / lengths + r % lengths) (length t) (omega (arith, p)), q)

  pub spelled_by_row : (k : ℕ) (w : List ℕ) → r ≡ row_of k → w ≡ within t (r / lengths) (r % lengths) → w ≡ spelling_in t k
  unfolding spelling_in
  spelled_by_row k w e h = rw (← e) h

-- no fixed spelling is longer than AUTOINCREMENT
abbrev pub longest_spelling : ℕ
longest_spelling = 13

short_below : below (λ k. leb (length (spelling k)) longest_spelling) count ≡ true
unfolding spelling row rows
short_below = refl

short_past : (k : ℕ) → count ≤ k → leb (length (spelling k)) longest_spelling ≡ true
unfolding spelling
short_past k h = rw (row_past k h)

pub short : (k : ℕ) → length (spelling k) ≤ longest_spelling
short k =
    leb-true (length (spelling k)) longest_spelling
    (everywhere (λ n. leb (length (spelling n)) longest_spelling ≡ true) k
    (at (λ n. leb (length (spelling n)) longest_spelling) count short_below k)
    (short_past k))

-- the row of a number lies within the pool
bounds_below : below (λ k. leb (row_of k / lengths + row_of k % lengths) (length bytes)) rows_held ≡ true
unfolding row_of bytes rows
bounds_below = refl

pub bounds : (k : ℕ) → k < rows_held → row_of k / lengths + row_of k % lengths ≤ length bytes
bounds k h =
    leb-true (row_of k / lengths + row_of k % lengths) (length bytes)
    (at (λ n. leb (row_of n / lengths + row_of n % lengths) (length bytes)) rows_held bounds_below k h)

-- what a lent pool has a spelling for is as long there as in the rows
within_length : (t : List ℕ) (i n : ℕ) → i + n ≤ length t → length (within t i n) ≡ n
unfolding within
within_length t i n h = rw (le-leb (i + n) (length t) h) (length-take-le n (drop i t) (omega (arith, length-drop i t)))

within_short : (t : List ℕ) (i n : ℕ) → length t < i + n → length (within t i n) ≡ 0
unfolding within
within_short t i n h = rw (lt-leb (i + n) (length t) h)

row_length : (k : ℕ) → k < rows_held → length (spelling k) ≡ row_of k % lengths
unfolding spelling_in
row_length k h = ap length (sym (spells k)) ∙ within_length bytes (row_of k / lengths) (row_of k % lengths) (bounds k h)

pub spelled_length : (t : List ℕ) (k : ℕ) → (length (spelling_in t k) ≡ 0 → ⊥) → length (spelling_in t k) ≡ length (spelling k)
unfolding spelling_in
spelled_length t k s = by (ltb k rows_held) refl (leb (i + n) (length t)) refl
  where
    i : ℕ
    i = row_of k / lengths

    n : ℕ
    n = row_of k % lengths

    by : (a : Bool) → ltb k rows_held ≡ a → (b : Bool) → leb (i + n) (length t) ≡ b → length (within t i n) ≡ length (spelling k)
    by true h true l = within_length t i n (leb-true (i + n) (length t) l) ∙ sym (row_length k (ltb-true k rows_held h))
    by true h false l = absurd (s (within_short t i n (leb-false (i + n) (length t) l)))
    by false h true l =
        let z : n ≡ 0 = omega (arith, row_none k (ltb-false k rows_held h)) in
        absurd (s (within_length t i n (leb-true (i + n) (length t) l) ∙ z))
    by false h false l = absurd (s (within_short t i n (leb-false (i + n) (length t) l)))

pub spelled_none : (t : List ℕ) (k : ℕ) → spelling k ≡ [] → spelling_in t k ≡ []
spelled_none t k e = by (spelling_in t k) refl
  where
    by : (w : List ℕ) → spelling_in t k ≡ w → w ≡ []
    by [] h = refl
    by (x ∷ w) h =
        absurd (suc-ne-zero (length w) (sym (ap length h) ∙ spelled_length t k (λ z. suc-ne-zero (length w) (sym (ap length h) ∙ z)) ∙ ap length e))

-- no byte of a fixed spelling is a blank
abbrev pub solid : List ℕ → Bool
solid w = all (λ b. not (blank b)) w

solid_below : below (λ k. solid (spelling k)) count ≡ true
unfolding spelling row rows blank
solid_below = refl

solid_past : (k : ℕ) → count ≤ k → solid (spelling k) ≡ true
unfolding spelling
solid_past k h = rw (row_past k h)

pub nonblank : (k : ℕ) → solid (spelling k) ≡ true
nonblank k =
    everywhere (λ n. solid (spelling n) ≡ true) k (at (λ n. solid (spelling n)) count solid_below k) (solid_past k)
