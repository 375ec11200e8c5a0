-- What the small functions say to one another.
use Rattle.std.specs.Prelude.{ℕ, ◌+◌, ◌-◌, ◌≤◌, ◌<◌, ◌≡◌, List, [], ◌∷◌, Bool, false, cond, ◌||◌, length, take, drop, eqb, Some}
use Rattle.white.specs.White.{white_space, encode, begins, white_length}
use Rattle.white.specs.Parts.{Span, span, marks, runs}
use Rattle.white.specs.declared.Parts.{Parts}

-- the 25 code points by how many bytes they take
abbrev pub ones : List ℕ
ones = take 6 white_space

abbrev pub twos : List ℕ
twos = take 2 (drop 6 white_space)

abbrev pub threes : List ℕ
threes = drop 8 white_space

-- whether a text begins with one of these characters
unfoldable pub begins_one_of : List ℕ → List ℕ → Bool
begins_one_of s [] = false
begins_one_of s (c ∷ cs) = begins s (encode c) || begins_one_of s cs

-- the last bytes of those that begin E2 80
abbrev pub spaces : List ℕ
spaces = 0x80 ∷ 0x81 ∷ 0x82 ∷ 0x83 ∷ 0x84 ∷ 0x85 ∷ 0x86 ∷ 0x87 ∷ 0x88 ∷ 0x89 ∷ 0x8A ∷ 0xA8 ∷ 0xA9 ∷ 0xAF ∷ []

-- the parts of what is left of a text from place i on, where no character reaches over i and the n bytes before it are a part's
unfoldable pub parts_from : List ℕ → ℕ → ℕ → List Span
parts_from s i n = runs i n (marks 0 (drop i s))

-- from `at` to r stand White_Space characters, and none at r
pub record SkipsWhite (s : List ℕ) (at r : ℕ) : Type 0 where
  pub past : at ≤ r
  pub within : r ≤ length s
  pub none : white_length (drop r s) ≡ 0
  pub same : parts_from s r 0 ≡ parts_from s at 0

-- from `at` to r stands a part
pub record SkipsPart (s : List ℕ) (at r : ℕ) : Type 0 where
  pub past : at < r
  pub within : r ≤ length s
  pub part : parts_from s at 0 ≡ span at (r - at) ∷ parts_from s r 0

-- one part more: the second is kept
unfoldable pub counted : Parts → ℕ → ℕ → Parts
counted p i n = record { count = p.count + 1; second = cond (eqb p.count 1) (Some (span i n)) p.second }
