-- Laws of a spelling in two numbers, which the table of spellings was once looked up by.
-- A spelling in two numbers of eight bytes each, the lowest byte first: the first eight bytes, and what is behind them.
use Rattle.std.specs.Prelude.{ℕ, ◌+◌, ◌-◌, ◌/◌, ◌≤◌, ◌<◌, ◌≡◌, refl, List, ◌++◌, Bool, true, false, ◌||◌, leb, eqb, length, take, drop, replicate}
use Rattle.std.proofs.Common.{arith, sym, ◌∙◌, length-append, drop_of_length-le, eqb-true}
use Rattle.std.proofs.lemmas.Bool.{false≢true, lt-leb}
use Rattle.std.specs.Int.Count.{count_leading_zeros}
use Rattle.std.proofs.Math.Seq.{take-append_seam}
use Rattle.laws.specs.Among.{among}
use Rattle.laws.specs.Apart.{Apart, absent}
use Rattle.laws.specs.Below.{below, at}
use Rattle.laws.specs.Bytes.{same, equal}
use Rattle.laws.specs.Little.{little, from_little}
use Rattle.spelling.specs.Rows.{rows}
use Rattle.spelling.specs.Spelling.{spelling, row}
use Rattle.spelling.specs.Table.{rows_held}
use Rattle.spelling.specs.Laws.{count, everywhere, silent}

unfoldable pub first : ℕ → ℕ
first k = from_little (take 8 (spelling k))

unfoldable pub rest : ℕ → ℕ
rest k = from_little (drop 8 (spelling k))

-- how many bytes a number takes: up to the highest that is not zero
unfoldable pub span : ℕ → ℕ
span n = 8 - count_leading_zeros 64 n / 8

-- a spelling, and zeros behind it up to sixteen bytes
unfoldable pub padded : ℕ → List ℕ
padded k = spelling k ++ replicate (16 - length (spelling k)) 0

-- the bytes that two numbers hold
abbrev pub bytes_of : ℕ → ℕ → List ℕ
bytes_of a b = little 8 a ++ little 8 b

-- past the rows there is nothing to hold
pub first_past : (k : ℕ) → rows_held ≤ k → first k ≡ 0
unfolding first
first_past k h = rw (silent k h)

-- where there are no more than eight bytes there is no rest
short_rest : (k : ℕ) → length (spelling k) ≤ 8 → rest k ≡ 0
unfolding rest
short_rest k h = rw (drop_of_length-le (spelling k) {i = 8} h)

rest_past : (k : ℕ) → rows_held ≤ k → rest k ≡ 0
rest_past k h = short_rest k (rw (silent k h) (omega arith))

-- the rest is tested at every number that is no key of the arms
pub no_rest : (ks : List ℕ) (k : ℕ) → below (λ n. eqb (rest n) 0 || among n ks) count ≡ true → Apart ks k → rest k ≡ 0
no_rest ks k t p =
    everywhere (λ n. rest n ≡ 0) k
    (λ l. eqb-true (rest k) 0 (left_of (eqb (rest k) 0) (among k ks) (at (λ n. eqb (rest n) 0 || among n ks) count t k l) (absent ks k p)))
    (λ l. rest_past k (omega arith))
  where
    left_of : (a b : Bool) → (a || b) ≡ true → b ≡ false → a ≡ true
    left_of true b e f = refl
    left_of false b e f = absurd (false≢true (sym f ∙ e))

-- a number that does not take all eight bytes has no rest behind it
short_below : below (λ k. leb 8 (span (first k)) || eqb (rest k) 0) count ≡ true
unfolding first rest span count_leading_zeros spelling row rows
short_below = refl

short : (k : ℕ) → span (first k) < 8 → rest k ≡ 0
short k h =
    everywhere (λ n. rest n ≡ 0) k
    (λ l. eqb-true (rest k) 0 (right_of (leb 8 (span (first k))) (eqb (rest k) 0) (at (λ n. leb 8 (span (first n)) || eqb (rest n) 0) count short_below k l) (lt-leb 8 (span (first k)) h)))
    (λ l. rest_past k (omega arith))
  where
    right_of : (a b : Bool) → (a || b) ≡ true → a ≡ false → b ≡ true
    right_of true b e f = absurd (false≢true (sym f))
    right_of false b e f = e

-- both take as many bytes as the spelling has
none : span 0 ≡ 0
unfolding span count_leading_zeros
none = refl

spans_below : below (λ k. eqb (span (first k) + span (rest k)) (length (spelling k))) count ≡ true
unfolding first rest span count_leading_zeros spelling row rows
spans_below = refl

spans : (k : ℕ) → span (first k) + span (rest k) ≡ length (spelling k)
spans k =
    everywhere (λ n. span (first n) + span (rest n) ≡ length (spelling n)) k
    (λ l. eqb-true (span (first k) + span (rest k)) (length (spelling k)) (at (λ n. eqb (span (first n) + span (rest n)) (length (spelling n))) count spans_below k l))
    (λ l. rw (first_past k (omega arith), rest_past k (omega arith), silent k (omega arith), none))

short_span : (k : ℕ) → span (first k) < 8 → span (first k) ≡ length (spelling k)
short_span k h = let e : span (first k) + 0 ≡ length (spelling k) = rw (short k h, none) at (spans k) in omega arith

pub span_le : (a : ℕ) {n : ℕ} → n ≡ span a → n ≤ 8
unfolding span
span_le a e = rw e (omega arith)

-- the two numbers hold the spelling and the zeros
holds_below : below (λ k. same (bytes_of (first k) (rest k)) (padded k)) count ≡ true
unfolding first rest padded spelling row rows
holds_below = refl

held : (k : ℕ) → bytes_of (first k) (rest k) ≡ padded k
unfolding padded
held k =
    everywhere (λ n. bytes_of (first n) (rest n) ≡ padded n) k
    (λ l. equal (bytes_of (first k) (rest k)) (padded k) (at (λ n. same (bytes_of (first n) (rest n)) (padded n)) count holds_below k l))
    (λ l. rw (first_past k (omega arith), rest_past k (omega arith), silent k (omega arith)))

-- so do the bytes that are made of them, with the rest or, where the first is short, without
module _ (k : ℕ) {a : ℕ} (f : a ≡ first k) where
  pub holds : {b : ℕ} {bs : List ℕ} → b ≡ rest k → bs ≡ bytes_of a b → bs ≡ padded k
  holds g e = e ∙ rw (f, g) (held k)

  pub takes : {b n m : ℕ} → b ≡ rest k → n ≡ span a → m ≡ span b → n + m ≡ length (spelling k)
  takes g p q = rw (p, q, f, g) (spans k)

  pub short_holds : {n : ℕ} {bs : List ℕ} → n ≡ span a → n < 8 → bs ≡ bytes_of a 0 → bs ≡ padded k
  short_holds p h e = holds (sym (short k (rw (← f, ← p) h))) e

  pub short_takes : {n : ℕ} → n ≡ span a → n < 8 → n ≡ length (spelling k)
  short_takes {n} p h = let e : n ≡ span (first k) = rw f at p in e ∙ short_span k (rw e at h)

-- so many of them as the spelling is long are the spelling
pub begins : (k n : ℕ) (bs : List ℕ) → bs ≡ padded k → n ≡ length (spelling k) → take n bs ≡ spelling k
unfolding padded
begins k n bs e l = rw (e, l) (take-append_seam (spelling k) (replicate (16 - length (spelling k)) 0))

pub within : (k n : ℕ) (bs : List ℕ) → bs ≡ padded k → n ≡ length (spelling k) → n ≤ length bs
unfolding padded
within k n bs e l = rw (e, l, length-append (spelling k) (replicate (16 - length (spelling k)) 0)) (omega arith)
