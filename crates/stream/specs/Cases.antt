-- 01, section 6: the cases S1 to S12, proved together as one statement over a list.
use Rattle.std.specs.Prelude.{ℕ, ◌≡◌, refl, List, [], ◌∷◌, map, true}
use Prim.Native.String.{String}
use Rattle.laws.specs.Text.{ascii}
use Rattle.blank.specs.Blank.{blank, all_blank}
use Rattle.spelling.specs.Rows.{rows}
use Rattle.spelling.specs.Spelling.{row, spelling}
use Rattle.spelling.specs.Token.{TK_SEMI, TK_BEGIN, TK_END, TK_LP, TK_RP, TK_COMMA, TK_ID, TK_DOT, TK_BLOB, TK_LBRACKET, TK_RBRACKET}
use Rattle.stream.specs.Stream.{Token, none, some, tight, opens, gap, gapped, blob, spelled_bit, written, valued_bit, added, left, adds, leaves, text}

-- a token alone, and a token with a value
abbrev bare : ℕ → Token
bare k = record { kind = k; value = none }

abbrev with : ℕ → String → Token
with k v = record { kind = k; value = some (ascii v) }

abbrev id : String → Token
id v = with TK_ID v

-- tokens and their bytes
abbrev pub Case : Type 0
Case = List Token × List ℕ

unfoldable pub cases : List Case
cases =
    ([], [])  -- S1
    ∷ (id "a" ∷ bare TK_COMMA ∷ id "b" ∷ [], ascii "a, b")  -- S2
    ∷ (id "a" ∷ bare TK_DOT ∷ id "b" ∷ [], ascii "a.b")  -- S3
    ∷ (id "f" ∷ bare TK_LP ∷ id "x" ∷ bare TK_RP ∷ [], ascii "f (x)")  -- S4
    ∷ (id "INT" ∷ bare TK_LBRACKET ∷ bare TK_RBRACKET ∷ [], ascii "INT[]")  -- S5
    ∷ (bare TK_BLOB ∷ id "a" ∷ [], ascii "X''a")  -- S6
    ∷ (id "a" ∷ bare TK_BLOB ∷ bare TK_COMMA ∷ [], ascii "a X'',")  -- S7
    ∷ (with TK_BEGIN "\n" ∷ id "x" ∷ with TK_SEMI "\n" ∷ bare TK_END ∷ [], ascii "BEGIN\nx;\nEND")  -- S8
    ∷ (id "a" ∷ id "" ∷ id "b" ∷ [], ascii "a b")  -- S9
    ∷ (with TK_BEGIN "" ∷ bare TK_END ∷ [], ascii "BEGINEND")  -- S10
    ∷ (id "\u{b}" ∷ id "a" ∷ [], ascii "\u{b} a")  -- S11
    ∷ (with TK_LP "z" ∷ id "b" ∷ [], ascii "(z b")  -- S12
    ∷ []

-- the text of each list of tokens, from the start, is its bytes
pub cases_hold : map (λ c. text true c.0) cases ≡ map (λ c. c.1) cases
unfolding cases text adds leaves added left gap gapped tight opens blob spelled_bit written valued_bit all_blank blank spelling row rows
cases_hold = refl
