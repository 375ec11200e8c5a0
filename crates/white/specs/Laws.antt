-- The definitions are right: the code points and their bytes, and examples of 01, section 4.
use Rattle.std.specs.Prelude.{ℕ, ◌<◌, ◌≡◌, refl, List, [], ◌∷◌, ◌++◌, Bool, true, cond, ◌&&◌, eqb, ltb, length, Some, None}
use Rattle.std.proofs.Common.{eqb-true}
use Rattle.laws.specs.Among.{among, all}
use Rattle.laws.specs.Below.{at}
use Rattle.laws.specs.Text.{ascii}
use Rattle.white.specs.White.{white_space, encode, white_length, length_among}
use Rattle.white.specs.Parts.{span, marks, runs, parts, split_of, first_of}

-- there are 25
all_there : length white_space ≡ 25
all_there = refl

-- the first example of RFC 3629, section 7
rfc_3629 : encode 0x41 ++ encode 0x2262 ++ encode 0x391 ++ encode 0x2E ≡ 0x41 ∷ 0xE2 ∷ 0x89 ∷ 0xA2 ∷ 0xCE ∷ 0x91 ∷ 0x2E ∷ []
rfc_3629 = refl

-- each is found, with its own length
pub each_found : all (λ c. ltb 0 (length (encode c)) && eqb (white_length (encode c)) (length (encode c))) white_space ≡ true
unfolding white_length length_among
each_found = refl

next_line : encode 0x85 ≡ 0xC2 ∷ 0x85 ∷ []
next_line = refl

no_break_space : encode 0xA0 ≡ 0xC2 ∷ 0xA0 ∷ []
no_break_space = refl

-- of the ASCII bytes, 9 to D and 20 are white, whatever stands behind them
ascii_right : List ℕ → ℕ → Bool
ascii_right s b = eqb (white_length (b ∷ s)) (cond (among b (0x9 ∷ 0xA ∷ 0xB ∷ 0xC ∷ 0xD ∷ 0x20 ∷ [])) 1 0)

pub ascii_white : (b : ℕ) (s : List ℕ) → b < 0x80 → white_length (b ∷ s) ≡ cond (among b (0x9 ∷ 0xA ∷ 0xB ∷ 0xC ∷ 0xD ∷ 0x20 ∷ [])) 1 0
unfolding white_length length_among ascii_right
ascii_white b s h = eqb-true _ _ (at (ascii_right s) 0x80 refl b h)

-- 0B, which is not blank in section 1, is white here
vertical_tab : white_length (0x0B ∷ []) ≡ 1
unfolding white_length length_among
vertical_tab = refl

-- U+180E, U+200B and U+FEFF are not white
not_white : all (λ c. eqb (white_length (encode c)) 0) (0x180E ∷ 0x200B ∷ 0xFEFF ∷ []) ≡ true
unfolding white_length length_among
not_white = refl

-- examples
without_rowid_lem : split_of (ascii "WITHOUT ROWID") ≡ record { count = 2; second = Some (span 8 5) }
unfolding split_of parts runs marks white_length length_among
without_rowid_lem = refl

empty : split_of [] ≡ record { count = 0; second = None }
unfolding split_of parts runs marks white_length length_among
empty = refl

blanks_only : split_of (ascii "   ") ≡ record { count = 0; second = None }
unfolding split_of parts runs marks white_length length_among
blanks_only = refl

one_part : split_of (ascii " STRICT ") ≡ record { count = 1; second = None }
unfolding split_of parts runs marks white_length length_among
one_part = refl

wide_spaces : split_of (ascii "a" ++ encode 0xA0 ++ ascii "b" ++ encode 0x3000) ≡ record { count = 2; second = Some (span 3 1) }
unfolding split_of parts runs marks white_length length_among
wide_spaces = refl

first_behind : first_of (encode 0xA0 ++ ascii "a b") ≡ Some (span 2 1)
unfolding first_of parts runs marks white_length length_among
first_behind = refl

no_first : first_of (ascii "  ") ≡ None
unfolding first_of parts runs marks white_length length_among
no_first = refl
