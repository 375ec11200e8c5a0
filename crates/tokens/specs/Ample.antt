-- How much room is ample for the text of a tree, by its records' numbers alone: a number that one pass over the records comes to. No text of a
-- tree that the check admits is longer (`admitted/Ample`).
use Rattle.std.specs.Prelude.{ℕ, zero, suc, ◌+◌, ◌*◌, ◌≤◌, ◌≡◌, refl, List, Bool, true, false, leb}
use Rattle.std.proofs.Common.{arith, add-one, ap, leb-true, leb-false}
use Rattle.record.specs.Record.{record_at, count}
use Rattle.record.specs.declared.Record.{Record}

-- a number of each of the first n records, added up
abbrev pub sum : (Record → ℕ) → List ℕ → ℕ → ℕ
sum f t zero = 0
sum f t (suc n) = sum f t n + f (record_at t n)

pub sum_next : (f : Record → ℕ) (t : List ℕ) (n : ℕ) → sum f t (n + 1) ≡ sum f t n + f (record_at t n)
sum_next f t n = ap (sum f t) (add-one n)

pub sum_up : (f : Record → ℕ) (t : List ℕ) (m n : ℕ) → m ≤ n → sum f t m ≤ sum f t n
sum_up f t m zero h = let z : m ≡ 0 = omega arith in rw z (omega arith)
sum_up f t m (suc n) h = by (leb m n) refl (sum_up f t m n)
  where
    by : (b : Bool) → leb m n ≡ b → (m ≤ n → sum f t m ≤ sum f t n) → sum f t m ≤ sum f t (suc n)
    by true q up = omega (arith, up (leb-true m n q))
    by false q up = let z : m ≡ suc n = omega (arith, leb-false m n q) in rw z (omega arith)

-- bytes 12 to 15 of each: the length of a text part, or the high half of a NUMBER
abbrev pub lengths : List ℕ → ℕ → ℕ
lengths t n = sum (λ r. r.len) t n

-- what a record takes at most beside its text part: for its own words, and as a child of another
abbrev pub each_takes : ℕ
each_takes = 200

-- that, and the text part twice, since quotes may be doubled
unfoldable pub ample_for : List ℕ → ℕ
ample_for t = each_takes * count t + 2 * lengths t (count t)
