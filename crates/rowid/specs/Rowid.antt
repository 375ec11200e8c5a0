-- 02, viii: "a without-rowid text accepted only if its two parts are WITHOUT and ROWID, each letter in either case." The parts are those of 01, section 4.
use Rattle.std.specs.Prelude.{ℕ, ◌-◌, List, [], ◌∷◌, map, Bool, false, cond, ◌&&◌, leb, take, drop}
use Prim.Native.String.{String}
use Rattle.laws.specs.Bytes.{same}
use Rattle.laws.specs.Text.{ascii}
use Rattle.white.specs.Parts.{Span, parts}

-- a byte in capitals: a letter from a to z as one from A to Z, and any other byte as it is
abbrev pub upper : ℕ → ℕ
upper b = cond (leb 0x61 b && leb b 0x7A) (b - 0x20) b

-- whether bytes in capitals are a word
abbrev pub is_word : List ℕ → List ℕ → Bool
is_word s w = same (map upper s) w

-- whether a part of a text is
abbrev pub part_is : List ℕ → Span → String → Bool
part_is x p w = is_word (take p.len (drop p.start x)) (ascii w)

-- whether the parts of a text are two, and these
abbrev pub are_the_two : List ℕ → List Span → Bool
are_the_two x [] = false
are_the_two x (p ∷ []) = false
are_the_two x (p ∷ q ∷ []) = part_is x p "WITHOUT" && part_is x q "ROWID"
are_the_two x (p ∷ q ∷ r ∷ ps) = false

-- what is accepted
unfoldable pub names : List ℕ → Bool
names x = are_the_two x (parts x)
