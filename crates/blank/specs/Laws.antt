-- A value's bytes one after the other, the end of them, and all of them at once.
use Rattle.std.specs.Prelude.{ℕ, ◌+◌, ◌≤◌, ◌<◌, ◌≡◌, refl, List, [], ◌∷◌, Bool, true, false, not, ◌&&◌, length, get_or, drop}
use Rattle.std.specs.List.{list_all}
use Rattle.std.proofs.Common.{ap, sym, drop_of_length-le, drop-cons, add-one, arith, ne_eqb}
use Rattle.std.proofs.lemmas.Bool.{not-true, not-false}
use Rattle.blank.specs.Blank.{blank, all_blank}

next : (v : List ℕ) (i : ℕ) → i < length v → all_blank (drop i v) ≡ blank (get_or v i 0) && all_blank (drop (i + 1) v)
unfolding all_blank
next v i h = rw (add-one, drop-cons v i 0)

pub stops : (v : List ℕ) (i : ℕ) (b : Bool) → i < length v → b ≡ blank (get_or v i 0) → not b ≡ true → all_blank (drop i v) ≡ false
stops v i b h e n = rw (next v i h, ← e, not-true b n)

pub goes_on : (v : List ℕ) (i : ℕ) (b : Bool) → i < length v → b ≡ blank (get_or v i 0) → not b ≡ false → all_blank (drop i v) ≡ all_blank (drop (i + 1) v)
goes_on v i b h e n = rw (next v i h, ← e, not-false b n)

-- a byte past the space is none of them
past : (b : ℕ) → 0x20 < b → blank b ≡ false
unfolding blank
past b h =
    rw (
      ne_eqb b 0x09 (λ e. omega arith),
      ne_eqb b 0x0A (λ e. omega arith),
      ne_eqb b 0x0C (λ e. omega arith),
      ne_eqb b 0x0D (λ e. omega arith),
      ne_eqb b 0x20 (λ e. omega arith),
    )

pub first_past : (v : List ℕ) → 0 < length v → 0x20 < get_or v 0 0 → false ≡ all_blank v
first_past v h l = sym (stops v 0 false h (sym (past (get_or v 0 0) l)) refl)

pub ends : (v : List ℕ) (i : ℕ) → length v ≤ i → all_blank (drop i v) ≡ true
unfolding all_blank
ends v i h = rw (drop_of_length-le v h)

pub all_listed : (v : List ℕ) → all_blank v ≡ list_all blank v
unfolding all_blank
all_listed [] = refl
all_listed (b ∷ v) = ap (λ (t : Bool). blank b && t) (all_listed v)
