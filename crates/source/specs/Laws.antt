-- One byte of the reading, by what it is, and one turn of the loop over a source's bytes.
use Rattle.std.specs.Prelude.{ℕ, ◌+◌, ◌≤◌, ◌<◌, ◌≡◌, true, false, length, get_or, drop}
use Rattle.std.proofs.Math.Path.{refl}
use Rattle.std.proofs.Common.{◌∙◌, ap, add-one, drop_of_length-le, drop-cons}
use mathlib.Core.List.{List, [], ◌∷◌}
use borrow.Author.Tests.{eq-eqb, ne_eqb}
use Rattle.source.specs.Source.{outside, line_comment, block_comment, quote, newline, dash, slash, star, is_quote, behind, ends, is_inside, ends_inside}
use Rattle.source.specs.Reading.{from, Leads}
use Rattle.source.specs.declared.At.{At}

-- ---- in a line comment and in a quote
pub line_over : (s : List ℕ) → ends (newline ∷ s) line_comment ≡ ends s outside
unfolding ends
line_over [] = refl
line_over (c ∷ s) = refl

pub line_on : (b : ℕ) → (b ≡ newline → ⊥) → (s : List ℕ) → ends (b ∷ s) line_comment ≡ ends s line_comment
unfolding ends
line_on b n [] = rw (ne_eqb b newline n)
line_on b n (c ∷ s) = rw (ne_eqb b newline n)

pub quote_over : (q : ℕ) (s : List ℕ) → ends (q ∷ s) (quote q) ≡ ends s outside
unfolding ends
quote_over q [] = rw (eq-eqb q q refl)
quote_over q (c ∷ s) = rw (eq-eqb q q refl)

pub quote_on : (q b : ℕ) → (b ≡ q → ⊥) → (s : List ℕ) → ends (b ∷ s) (quote q) ≡ ends s (quote q)
unfolding ends
quote_on q b n [] = rw (ne_eqb b q n)
quote_on q b n (c ∷ s) = rw (ne_eqb b q n)

-- ---- a byte that begins no mark
module _ (b : ℕ) (d : b ≡ dash → ⊥) (e : b ≡ slash → ⊥) where
  outside_behind : (s : List ℕ) → ends (b ∷ s) outside ≡ ends s (behind b)
  unfolding ends
  outside_behind [] = refl
  outside_behind (c ∷ s) = rw (ne_eqb b dash d, ne_eqb b slash e)

  pub quote_opens : is_quote b ≡ true → (s : List ℕ) → ends (b ∷ s) outside ≡ ends s (quote b)
  quote_opens q s = outside_behind s ∙ rw q

  pub outside_on : is_quote b ≡ false → (s : List ℕ) → ends (b ∷ s) outside ≡ ends s outside
  outside_on q s = outside_behind s ∙ rw q

pub block_on : (b : ℕ) → (b ≡ star → ⊥) → (s : List ℕ) → ends (b ∷ s) block_comment ≡ ends s block_comment
unfolding ends
block_on b n [] = refl
block_on b n (c ∷ s) = rw (ne_eqb b star n)

-- ---- a byte that does not make a mark whole: the one before it is read alone
pub dash_alone : (b : ℕ) → (b ≡ dash → ⊥) → (s : List ℕ) → ends (dash ∷ b ∷ s) outside ≡ ends (b ∷ s) outside
unfolding ends
dash_alone b n s = rw (ne_eqb b dash n)

pub slash_alone : (b : ℕ) → (b ≡ star → ⊥) → (s : List ℕ) → ends (slash ∷ b ∷ s) outside ≡ ends (b ∷ s) outside
unfolding ends
slash_alone b n s = rw (ne_eqb b star n)

pub star_alone : (b : ℕ) → (b ≡ slash → ⊥) → (s : List ℕ) → ends (star ∷ b ∷ s) block_comment ≡ ends (b ∷ s) block_comment
unfolding ends
star_alone b n s = rw (ne_eqb b slash n)

-- ---- the loop
pub turn : (s : List ℕ) (i : ℕ) (at to : At) → i < length s → Leads at (get_or s i 0) to → from at (drop i s) ≡ from to (drop (i + 1) s)
turn s i at to h l = rw (add-one, drop-cons s i 0 h) (l _)

pub ended : (s : List ℕ) (i : ℕ) (at : At) → length s ≤ i → from at (drop i s) ≡ ends s outside → is_inside (from at []) ≡ ends_inside s
unfolding ends_inside
ended s i at h e = ap is_inside (rw (drop_of_length-le s h) at e)
