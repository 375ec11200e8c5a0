-- 02, vii: "With a new caller's switch on, a CHECK source that ends inside a block comment or inside one of the three quotes of 01 is
-- refused; inside a `--` comment it stays allowed, since the newline saves it. Read from the left: block comment and line comment open only
-- outside quotes and outside each other, quotes only outside comments; a line comment ends at a newline, a block comment at the first `*/`
-- after its two opening bytes."
use Rattle.std.specs.Prelude.{ℕ, List, [], ◌∷◌, Bool, true, false, cond, ◌&&◌, eqb}
use Rattle.laws.specs.Among.{among}

-- the bytes that open and end comments
abbrev pub newline : ℕ
newline = 0x0A

abbrev pub dash : ℕ
dash = 0x2D

abbrev pub slash : ℕ
slash = 0x2F

abbrev pub star : ℕ
star = 0x2A

-- 01's three quotes: ', " and `
abbrev pub is_quote : ℕ → Bool
is_quote b = among b (0x27 ∷ 0x22 ∷ 0x60 ∷ [])

-- where a reading is; of a quote, which one
pub data Where : Type 0 where
  outside : Where
  line_comment : Where
  block_comment : Where
  quote : ℕ → Where

-- behind a byte outside that opens no comment: a quote opens, and any other byte changes nothing
abbrev pub behind : ℕ → Where
behind a = cond (is_quote a) (quote a) outside

-- where bytes end that are read from there on
unfoldable pub ends : List ℕ → Where → Where
ends [] w = w
-- outside: `--` opens a line comment, `/*` a block comment; a quote opens
ends (a ∷ []) outside = behind a
ends (a ∷ b ∷ s) outside =
    cond (eqb a dash && eqb b dash) (ends s line_comment)
    (cond (eqb a slash && eqb b star) (ends s block_comment)
    (ends (b ∷ s) (behind a)))
-- in a line comment: a newline ends it
ends (a ∷ s) line_comment = cond (eqb a newline) (ends s outside) (ends s line_comment)
-- in a block comment: the first `*/` ends it
ends (a ∷ []) block_comment = block_comment
ends (a ∷ b ∷ s) block_comment = cond (eqb a star && eqb b slash) (ends s outside) (ends (b ∷ s) block_comment)
-- in a quote: the next one like it ends it
ends (a ∷ s) (quote q) = cond (eqb a q) (ends s outside) (ends s (quote q))

-- inside a block comment or a quote
abbrev pub is_inside : Where → Bool
is_inside outside = false
is_inside line_comment = false
is_inside block_comment = true
is_inside (quote q) = true

-- what is refused
unfoldable pub ends_inside : List ℕ → Bool
ends_inside s = is_inside (ends s outside)
