-- 01, section 4: the corners kept from the crate, as tokens of a text part.
use Rattle.std.specs.Prelude.{ℕ, zero, suc, List, [], ◌∷◌, ◌++◌, Bool, false, cond, ◌&&◌, ◌||◌, eqb, length, take, drop}
use Rattle.laws.specs.Text.{ascii}
use Rattle.spelling.specs.Token.{TK_ID, TK_STRING, TK_WITHOUT, TK_LBRACKET, TK_RBRACKET}
use Rattle.stream.specs.Stream.{Token, none, some}
use Rattle.stream.specs.Sink.{doubled}
use Rattle.mode.specs.declared.Edition.{Edition}
use Rattle.mode.specs.declared.Edition.TheVariants.{Crate, Sqlite}
use Rattle.white.specs.Parts.{parts, second}

-- a token with no value, with a value, and TK_ID with one
abbrev pub bare : ℕ → Token
bare k = record { kind = k; value = none }

abbrev pub valued : ℕ → List ℕ → Token
valued k v = record { kind = k; value = some v }

abbrev pub id : List ℕ → Token
id v = valued TK_ID v

abbrev pub newline : List ℕ
newline = ascii "\n"

-- "Exactly two non-empty parts: TK_WITHOUT, then TK_ID with the second part, no matter what the first says. Otherwise nothing."
abbrev pub second_part : List ℕ → List ℕ
second_part x = take (second (parts x)).len (drop (second (parts x)).start x)

unfoldable pub without : List ℕ → List Token
without x = cond (eqb (length (parts x)) 2) (bare TK_WITHOUT ∷ id (second_part x) ∷ []) []

-- whether a text contains `--`, wherever it stands
unfoldable pub dashes : List ℕ → Bool
dashes [] = false
dashes (a ∷ []) = false
dashes (a ∷ b ∷ x) = (eqb a 0x2D && eqb b 0x2D) || dashes (b ∷ x)

-- "one TK_ID token; if it contains `--`, also a TK_ID of one newline"
unfoldable pub sourced : List ℕ → List Token
sourced x = id x ∷ cond (dashes x) (id newline ∷ []) []

-- the text between the quotes: "inner quotes not doubled" (01), and "doubled" in SQLite's edition (02, viii)
unfoldable pub inner : Edition → List ℕ → List ℕ
inner Crate x = x
inner Sqlite x = doubled x

-- "a quote, the text, a quote"
unfoldable pub quote : Edition → List ℕ → Token
quote v x = valued TK_STRING (ascii "'" ++ inner v x ++ ascii "'")

-- n pairs of brackets
unfoldable pub pairs : ℕ → List Token
pairs zero = []
pairs (suc n) = bare TK_LBRACKET ∷ bare TK_RBRACKET ∷ pairs n
