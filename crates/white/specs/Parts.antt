-- 01, section 4: "split at White_Space characters .. Exactly two non-empty parts (empty ones don't count)". The parts are the longest runs of bytes that belong to no White_Space character.
use Rattle.std.specs.Prelude.{ℕ, zero, suc, ◌+◌, ◌-◌, List, [], ◌∷◌, ◌++◌, Bool, true, false, length, get_or, ltb, Option, slice_get}
use Rattle.white.specs.White.{white_length}
use Rattle.white.specs.declared.Parts.{Parts}
use Rattle.white.specs.declared.Part.{Part}

-- where a part stands, as the code gives it
abbrev pub Span : Type 0
Span = Part

abbrev pub span : ℕ → ℕ → Span
span i n = record { start = i; len = n }

-- a mark for each byte, true where it belongs to a White_Space character. Read from the left; k bytes of a character that began before are still to come
unfoldable pub marks : ℕ → List ℕ → List Bool
marks k [] = []
marks (suc k) (b ∷ s) = true ∷ marks k s
marks zero (b ∷ s) = ltb 0 (white_length (b ∷ s)) ∷ marks (white_length (b ∷ s) - 1) s

-- the part of n bytes that ends before place i; an empty one does not count
abbrev pub closed : ℕ → ℕ → List Span
closed i zero = []
closed i (suc n) = span (i - suc n) (suc n) ∷ []

-- the longest runs of false: of the marks from place i on, where n bytes without a mark stand just before it
unfoldable pub runs : ℕ → ℕ → List Bool → List Span
runs i n [] = closed i n
runs i n (true ∷ ms) = closed i n ++ runs (i + 1) 0 ms
runs i n (false ∷ ms) = runs (i + 1) (n + 1) ms

unfoldable pub parts : List ℕ → List Span
parts s = runs 0 0 (marks 0 s)

-- the second of the parts, and 0 and 0 where there is none
abbrev pub second : List Span → Span
second ps = get_or ps 1 (span 0 0)

unfoldable pub split_of : List ℕ → Parts
split_of s = record { count = length (parts s); second = slice_get (parts s) 1 }

-- the first of them, and 0 and 0 where there is none
abbrev pub first : List Span → Span
first ps = get_or ps 0 (span 0 0)

unfoldable pub first_of : List ℕ → Option Part
first_of s = slice_get (parts s) 0
