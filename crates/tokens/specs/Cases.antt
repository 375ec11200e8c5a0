-- 01, sections 4 and 6: trees and their texts, proved together as one statement over a list.
use Rattle.std.specs.Prelude.{ℕ, ◌+◌, ◌≡◌, refl, List, [], ◌∷◌, ◌++◌, map}
use Prim.Native.String.{String}
use Rattle.laws.specs.Little.{little}
use Rattle.laws.specs.Text.{ascii}
use Rattle.blank.specs.Blank.{blank, all_blank}
use Rattle.mode.specs.declared.Edition.TheVariants.{Crate, Sqlite}
use Rattle.white.specs.White.{length_among, white_length}
use Rattle.white.specs.Parts.{marks, runs, parts}
use Rattle.decimal.specs.Decimal as dec
use Rattle.spelling.specs.Rows as spellings
use Rattle.spelling.specs.Spelling.{row, spelling}
use Rattle.spelling.specs.Token.{TK_ID}
use Rattle.stream.specs.Sink.{doubled}
use Rattle.stream.specs.Stream.{tight, opens, gap, gapped, blob, spelled_bit, written, valued_bit, added, left, adds, leaves, text}
use Rattle.record.specs.Record.{bytes_at, record_at, signed, number_of}
use Rattle.grammar.specs.Kind.{NONE, LIST, TOKEN, RUN, TEXT, NUMBER, Cmd, Insert, DropType, CreateSequence, Values, ColumnsAndConstraints, Check, TypeName, OperatorClause, REPLACE}
use Rattle.grammar.specs.Grammar.{shape}
use Rattle.grammar.specs.Slots.{allowed}
use Rattle.tokens.specs.Corners.{without, dashes, sourced, inner, quote, pairs}
use Rattle.tokens.specs.Tokens.{anything, between, Source, behind, token_of, flagged, rows, listed, placed, checked, means, node, whole, tokens_of, text_of}

-- the sixteen bytes of a record: kind, flags, number of children, text start, text length
abbrev rec : ℕ → ℕ → ℕ → ℕ → ℕ → List ℕ
rec kind flags kids start len =
    0x53 ∷ 0x4E ∷ little 2 kind ++ little 2 flags ++ little 2 kids ++ little 4 start ++ little 4 len

-- a record with this many children, with flags too, and a part of the text
abbrev of : ℕ → ℕ → List ℕ
of kind kids = rec kind 0 kids 0 0

abbrev flags : ℕ → ℕ → ℕ → List ℕ
flags kind f kids = rec kind f kids 0 0

abbrev words : ℕ → ℕ → List ℕ
words start len = rec TEXT 0 0 start len

-- a RUN of one TK_ID with this part of the text as its value
abbrev ident : ℕ → ℕ → List ℕ
ident start len = of RUN 1 ++ rec TOKEN (0x8000 + TK_ID) 0 start len

-- the lowest number of 64 bits
abbrev lowest : List ℕ
lowest = rec NUMBER 0 0 0 0x8000_0000

-- a tree, its text, and the bytes that they come to
abbrev pub Case : Type 0
Case = Source × List ℕ

abbrev case : List ℕ → String → String → Case
case tree text bytes = (record { tree = tree; text = ascii text; edition = Crate }, ascii bytes)

unfoldable pub cases : List Case
cases =
    case (of Cmd 1 ++ flags DropType 1 1 ++ words 0 3) "geo" "DROP TYPE IF EXISTS geo;"
    ∷ case (of Check 2 ++ of RUN 0 ++ words 0 4) "a--b" "CHECK (a--b \n)"
    ∷ case (of Check 2 ++ of RUN 0 ++ words 0 4) "'--'" "CHECK ('--' \n)"
    ∷ case (of Check 2 ++ ident 0 1 ++ words 1 0) "a" "CHECK (a)"
    ∷ case (of Values 1 ++ of LIST 0) "" ""
    ∷ case (of OperatorClause 2 ++ words 0 4 ++ of NONE 0) "it's" "OPERATOR 'it's'"
    ∷ case (of ColumnsAndConstraints 4 ++ of LIST 1 ++ ident 0 1 ++ of LIST 0 ++ words 1 8 ++ words 9 6) "ax rowid STRICT" "(a) WITHOUT rowid STRICT"
    ∷ case (of Insert 6 ++ of NONE 0 ++ of REPLACE 0 ++ ident 0 1 ++ of LIST 0 ++ ident 1 1 ++ of LIST 0) "tv" "REPLACE INTO t v"
    ∷ case (of TypeName 3 ++ words 0 3 ++ of NONE 0 ++ rec NUMBER 0 0 2 0) "INT" "INT[][]"
    ∷ case (of CreateSequence 5 ++ ident 0 1 ++ lowest ++ of NONE 0 ++ of NONE 0 ++ of NONE 0) "s" "CREATE SEQUENCE s START WITH -9223372036854775808"
    ∷ []

-- the text of each tree is its bytes
pub cases_hold : map (λ c. text_of c.0) cases ≡ map (λ c. c.1) cases
unfolding cases anything between inner doubled text_of tokens_of whole node means checked placed listed rows behind token_of flagged without dashes sourced quote pairs allowed shape record_at bytes_at signed number_of text adds leaves added left gap gapped tight opens blob spelled_bit written valued_bit all_blank blank spelling row spellings.rows marks runs parts length_among white_length dec.decimal dec.natural dec.digits
cases_hold = refl

-- ---- in SQLite's edition (02, viii): a quote inside an operator's text is doubled, and a comma stands between two options, and only there
abbrev sqlite : List ℕ → String → Source
sqlite tree text = record { tree = tree; text = ascii text; edition = Sqlite }

sqlite_operator : text_of (sqlite (of OperatorClause 2 ++ words 0 4 ++ of NONE 0) "it's") ≡ ascii "OPERATOR 'it''s'"
unfolding anything between inner doubled text_of tokens_of whole node means checked placed listed rows behind token_of flagged without dashes sourced quote pairs allowed shape record_at bytes_at signed number_of text adds leaves added left gap gapped tight opens blob spelled_bit written valued_bit all_blank blank spelling row spellings.rows marks runs parts length_among white_length dec.decimal dec.natural dec.digits
sqlite_operator = refl

sqlite_options : text_of (sqlite (of ColumnsAndConstraints 4 ++ of LIST 1 ++ ident 0 1 ++ of LIST 0 ++ words 1 13 ++ words 14 6) "aWithout rowidSTRICT") ≡ ascii "(a) WITHOUT rowid, STRICT"
unfolding anything between inner doubled text_of tokens_of whole node means checked placed listed rows behind token_of flagged without dashes sourced quote pairs allowed shape record_at bytes_at signed number_of text adds leaves added left gap gapped tight opens blob spelled_bit written valued_bit all_blank blank spelling row spellings.rows marks runs parts length_among white_length dec.decimal dec.natural dec.digits
sqlite_options = refl

sqlite_one_option : text_of (sqlite (of ColumnsAndConstraints 4 ++ of LIST 1 ++ ident 0 1 ++ of LIST 0 ++ words 1 13 ++ of NONE 0) "aWithout rowid") ≡ ascii "(a) WITHOUT rowid"
unfolding anything between inner doubled text_of tokens_of whole node means checked placed listed rows behind token_of flagged without dashes sourced quote pairs allowed shape record_at bytes_at signed number_of text adds leaves added left gap gapped tight opens blob spelled_bit written valued_bit all_blank blank spelling row spellings.rows marks runs parts length_among white_length dec.decimal dec.natural dec.digits
sqlite_one_option = refl
