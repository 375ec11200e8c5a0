-- Plain bytes are from 20 to 7F. Each is a character, and none is a control below 20, so that a row of them is a text that holds no newline. Assumes nothing.
use Rattle.std.specs.Prelude.{ℕ, zero, suc, ◌+◌, ◌-◌, ◌/◌, ◌≤◌, ◌<◌, ◌≡◌, refl, List, [], ◌∷◌, ◌++◌, Bool, true, false, not, ◌&&◌, leb, ltb, eqb, length, take, drop, get_or}
use Rattle.std.proofs.Common.{◌∙◌, sym, arith, not-suc-le-zero, length-drop, take-append-drop, take_all, take-take, take-add, leb-true, le-leb, ltb-true, ne_eqb}
use Rattle.std.proofs.Math.Bool.{and-true}
use Rattle.std.proofs.lemmas.Bool.{false≢true, lt-leb}
use Rattle.std.specs.List.{fold}
use Rattle.laws.specs.Rest.{rest, length_rest}
use Rattle.laws.specs.Tests.{and_left, and_right, and_both, as_one}
use Rattle.utf8.specs.Rfc3629.{Text, none, more, one}
use Rattle.utf8.specs.Characters.{NoChar}

-- a plain byte: a character of one byte, but none of the controls below 20
unfoldable pub plain : ℕ → Bool
plain x = leb 0x20 x && ltb x 0x80

-- all bytes are plain
unfoldable pub all_plain : List ℕ → Bool
all_plain [] = true
all_plain (x ∷ s) = plain x && all_plain s

-- there are few bytes, at most sixteen
abbrev pub few : List ℕ → Bool
few s = leb (length s) 16

-- there are few, or many, and all are plain
abbrev pub few_plain : List ℕ → Bool
few_plain s = few s && all_plain s

abbrev pub many_plain : List ℕ → Bool
many_plain s = not (few s) && all_plain s

-- where the pieces of w plain bytes that begin the bytes end
pub record Stops (w : ℕ) (s : List ℕ) (i : ℕ) : Type 0 where
  pub within : i ≤ length s
  pub plain : all_plain (take i s) ≡ true
  pub last : w ≤ length s - i → all_plain (take w (drop i s)) ≡ false

-- a text goes on for n bytes of the row; n is 0 where no character begins it
abbrev pub Goes : List ℕ → ℕ → Type 0
Goes s n = (n ≡ 0 → NoChar s) × ((n ≡ 0 → ⊥) → (n ≤ length s) × Text (take n s))

-- ---- a byte

pub plain_within : (x : ℕ) → plain x ≡ true → (0x20 ≤ x) × (x < 0x80)
unfolding plain
plain_within x t = (leb-true 0x20 x (and_left (leb 0x20 x) (ltb x 0x80) t), ltb-true x 0x80 (and_right (leb 0x20 x) (ltb x 0x80) t))

pub no_newline : (x : ℕ) → plain x ≡ true → eqb x 0x0A ≡ false
no_newline x t = ne_eqb x 0x0A (λ e. omega (arith, plain_within x t))

-- each byte of a plain row
pub plain_at : (s : List ℕ) → all_plain s ≡ true → (i : ℕ) → i < length s → (0x20 ≤ get_or s i 0) × (get_or s i 0 < 0x80)
unfolding all_plain
plain_at [] t i h = absurd (not-suc-le-zero h)
plain_at (x ∷ s) t zero h = plain_within x (and_left (plain x) (all_plain s) t)
plain_at (x ∷ s) t (suc i) h = plain_at s (and_right (plain x) (all_plain s) t) i (omega arith)

-- ---- few bytes, and many

module _ (s : List ℕ) (b : Bool) where
  pub of_few : length s ≤ 16 → b ≡ all_plain s → b ≡ few_plain s
  of_few h e = rw (le-leb (length s) 16 h) e

  pub of_many : 16 < length s → b ≡ all_plain s → b ≡ many_plain s
  of_many h e = rw (lt-leb (length s) 16 h) e

pub not_few : (s : List ℕ) → 16 < length s → false ≡ few_plain s
not_few s h = rw (lt-leb (length s) 16 h)

pub not_many : (s : List ℕ) → length s ≤ 16 → false ≡ many_plain s
not_many s h = rw (le-leb (length s) 16 h)

-- ---- a row in parts

pub plain_append : (a b : List ℕ) → all_plain (a ++ b) ≡ all_plain a && all_plain b
unfolding all_plain
plain_append [] b = refl
plain_append (x ∷ a) b = rw (plain_append a b) (by (plain x))
  where
    by : (t : Bool) → t && (all_plain a && all_plain b) ≡ (t && all_plain a) && all_plain b
    by true = refl
    by false = refl

-- the bytes up to k, and those from it on
pub plain_split : (k : ℕ) (s : List ℕ) → all_plain s ≡ all_plain (take k s) && all_plain (drop k s)
plain_split k s = rw (take-append-drop k s) at (plain_append (take k s) (drop k s))

pub plain_take : (k : ℕ) (s : List ℕ) → all_plain s ≡ true → all_plain (take k s) ≡ true
plain_take k s t = and_left (all_plain (take k s)) (all_plain (drop k s)) (sym (plain_split k s) ∙ t)

pub plain_drop : (k : ℕ) (s : List ℕ) → all_plain s ≡ true → all_plain (drop k s) ≡ true
plain_drop k s t = and_right (all_plain (take k s)) (all_plain (drop k s)) (sym (plain_split k s) ∙ t)

-- the bytes tested one by one
pub folded : (t : Bool) (s : List ℕ) → fold (λ (a : Bool) b. a && plain b) t s ≡ t && all_plain s
unfolding all_plain
folded t [] = sym (and-true t)
folded t (x ∷ s) = folded (t && plain x) s ∙ by t
  where
    by : (t : Bool) → (t && plain x) && all_plain s ≡ t && (plain x && all_plain s)
    by true = refl
    by false = refl

-- ---- two tests, the second in what is left from a place on

-- it takes up where the first ends
pub both : (s : List ℕ) (i w : ℕ) (a b : Bool) → a ≡ all_plain (take i s) → b ≡ all_plain (take w (take (length s - i) (drop i s)))
    → a && b ≡ all_plain (take (i + w) s)
both s i w a b p q = rw (p, q, rest s i, take-add i w s) (sym (plain_append (take i s) (take w (drop i s))))

-- it begins no later, and is of the last w bytes: the two reach all
pub overlap : (s : List ℕ) (i k w : ℕ) (a b : Bool) → k ≤ i → length s ≡ k + w
    → a ≡ all_plain (take i s) → b ≡ all_plain (take w (take (length s - k) (drop k s))) → a && b ≡ all_plain s
overlap s i k w a b l e p q = rw (p, q, rest s k, take_all w (drop k s) (omega (arith, length-drop k s))) (as_one _ (all_plain s) to from)
  where
    to : all_plain (take i s) && all_plain (drop k s) ≡ true → all_plain s ≡ true
    to t =
        let start = plain_take k (take i s) (and_left (all_plain (take i s)) (all_plain (drop k s)) t) in
        rw (plain_split k s)
        (and_both (all_plain (take k s)) (all_plain (drop k s)) (rw (take-take k i s l) at start) (and_right (all_plain (take i s)) (all_plain (drop k s)) t))

    from : all_plain s ≡ true → all_plain (take i s) && all_plain (drop k s) ≡ true
    from t = and_both (all_plain (take i s)) (all_plain (drop k s)) (plain_take i s t) (plain_drop k s t)

-- ---- pieces of w plain bytes

-- the piece from i on is not plain, or is not whole
pub stop : (s : List ℕ) (i w : ℕ) (b : Bool) → i ≤ length s → all_plain (take i s) ≡ true
    → b ≡ all_plain (take w (take (length s - i) (drop i s))) → b ≡ false → Stops w s i
stop s i w b l p q f = record { within = l; plain = p; last = λ h. rw (rest s i) at (sym q ∙ f) }

pub stop_short : (s : List ℕ) (i w : ℕ) → i ≤ length s → all_plain (take i s) ≡ true → length s - i < w → Stops w s i
stop_short s i w l p h = record { within = l; plain = p; last = λ k. absurd (omega arith) }

-- where a whole one is left, not all bytes are plain
pub stopped : (s : List ℕ) (i w : ℕ) → Stops w s i → w ≤ length s - i → false ≡ all_plain s
stopped s i w h l = as_one false (all_plain s) (λ e. absurd (false≢true e)) (λ t. sym (h.last l) ∙ plain_take w (drop i s) (plain_drop i s t))

-- where none is, the last w bytes decide
pub reached : (s : List ℕ) (i k w : ℕ) (b : Bool) → Stops w s i → length s - i < w → length s ≡ k + w
    → b ≡ all_plain (take w (take (length s - k) (drop k s))) → b ≡ all_plain s
reached s i k w b h l e q = overlap s i k w true b (omega (arith, h.within)) e (sym h.plain) q

-- pieces of v, and pieces of w behind them
pub behind : (s : List ℕ) (i j v w : ℕ) → Stops v s i → Stops w (take (length s - i) (drop i s)) j
    → (i + j ≤ length s) × (all_plain (take (i + j) s) ≡ true)
behind s i j v w g h = (
  let fit : j ≤ length s - i = rw (length_rest s i) at h.within in omega (arith, g.within),
  sym (both s i j true true (sym g.plain) (sym h.plain)),
)

-- ---- no bytes, and up to three: the first, the middle and the last

pub none_plain : (s : List ℕ) → length s ≡ 0 → true ≡ all_plain s
unfolding all_plain
none_plain [] e = refl
none_plain (x ∷ s) e = absurd (omega arith)

pub three_plain : (s : List ℕ) → 0 < length s → length s < 4
    → (plain (get_or s 0 0) && plain (get_or s (length s / 2) 0)) && plain (get_or s (length s - 1) 0) ≡ all_plain s
unfolding all_plain
three_plain [] h l = absurd (not-suc-le-zero h)
three_plain (x ∷ []) h l = by (plain x)
  where
    by : (a : Bool) → (a && a) && a ≡ a && true
    by true = refl
    by false = refl
three_plain (x ∷ y ∷ []) h l = by (plain x) (plain y)
  where
    by : (a b : Bool) → (a && b) && b ≡ a && (b && true)
    by true true = refl
    by true false = refl
    by false b = refl
three_plain (x ∷ y ∷ z ∷ []) h l = by (plain x) (plain y) (plain z)
  where
    by : (a b c : Bool) → (a && b) && c ≡ a && (b && (c && true))
    by true true true = refl
    by true true false = refl
    by true false c = refl
    by false b c = refl
three_plain (x ∷ y ∷ z ∷ u ∷ s) h l = absurd (omega arith)

-- ---- a row of plain bytes is a text

pub plain_text : (s : List ℕ) → all_plain s ≡ true → Text s
unfolding all_plain
plain_text [] t = none
plain_text (x ∷ s) t =
    let within = plain_within x (and_left (plain x) (all_plain s) t) in
    more (one {a = x} (record { low = omega arith; high = omega arith })) (plain_text s (and_right (plain x) (all_plain s) t))
