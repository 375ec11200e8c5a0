-- Streams that are readable, told by their carriers, with their texts: by is_readable each is Readable.
use Rattle.std.specs.Prelude.{ℕ, ◌≡◌, refl, List, [], ◌∷◌, map, Bool, true, ◌&&◌}
use Prim.Native.String.{String}
use Rattle.laws.specs.Text.{ascii}
use Rattle.blank.specs.Blank.{blank, all_blank}
use Rattle.spelling.specs.Rows.{rows}
use Rattle.spelling.specs.Spelling.{row, spelling}
use Rattle.spelling.specs.Token.{TK_SEMI, TK_CREATE, TK_TABLE, TK_BEGIN, TK_END, TK_LP, TK_RP, TK_COMMA, TK_ID, TK_DOT, TK_FLOAT, TK_INTEGER, TK_STRING, TK_VARIABLE, TK_PTR, TK_CONCAT, TK_MINUS, TK_STAR, TK_BITNOT, TK_LBRACKET, TK_RBRACKET}
use Rattle.stream.specs.Stream as stream
use Rattle.stream.specs.Stream.{tight, opens, gap, gapped, spelled_bit, written, valued_bit, added, left, adds, leaves, text}
use Rattle.reading.specs.Bytes.{digit, hex_digit, word_first, word_byte}
use Rattle.reading.specs.Lexeme.{Kind, Word, Number, Quoted, Blob, Variable, Operator, Mark, operators}
use Rattle.reading.proofs.Decided.{Carrier, fixed_as, word_lined, semi_lined, value_as, blob_of, blob_of_none, token_of, readable}

-- carriers by short names: a fixed word, operator or mark; a value of TK_ID
abbrev w : ℕ → Carrier
w k = fixed_as Word k

abbrev o : ℕ → Carrier
o k = fixed_as Operator k

abbrev m : ℕ → Carrier
m k = fixed_as Mark k

abbrev id : Kind → String → Carrier
id κ v = value_as κ TK_ID (ascii v)

abbrev var : String → Carrier
var v = value_as Variable TK_VARIABLE (ascii v)

-- a stream and its text
abbrev Example : Type 0
Example = List Carrier × List ℕ

unfoldable examples : List Example
examples =
    ([], [])
    -- words and marks
    ∷ (w TK_CREATE ∷ w TK_TABLE ∷ id Word "t" ∷ m TK_LP ∷ id Word "a" ∷ m TK_COMMA ∷ id Word "b" ∷ m TK_RP ∷ m TK_SEMI ∷ [], ascii "CREATE TABLE t (a, b);")
    -- dots and brackets
    ∷ (id Word "a" ∷ m TK_DOT ∷ id Word "b" ∷ m TK_LBRACKET ∷ value_as Number TK_INTEGER (ascii "1") ∷ m TK_RBRACKET ∷ m TK_LBRACKET ∷ m TK_RBRACKET ∷ [], ascii "a.b[1][]")
    -- blobs with no value, and no space behind them
    ∷ (blob_of_none ∷ id Word "a" ∷ blob_of_none ∷ m TK_COMMA ∷ [], ascii "X''a X'',")
    -- blobs, and one that TK_ID carries
    ∷ (blob_of (ascii "X'0aF9'") ∷ blob_of (ascii "x''") ∷ id Blob "x'00'" ∷ [], ascii "X'0aF9'x''x'00'")
    -- values of one newline
    ∷ (word_lined TK_BEGIN ∷ id Word "x" ∷ semi_lined ∷ word_lined TK_END ∷ semi_lined ∷ [], ascii "BEGIN\nx;\nEND\n;\n")
    -- quotes of each sort, doubled, and with nothing between them
    ∷ (value_as Quoted TK_STRING (ascii "'it''s'") ∷ id Quoted "\"a\"\"\"" ∷ id Quoted "``" ∷ m TK_COMMA ∷ id Quoted "''" ∷ [], ascii "'it''s' \"a\"\"\" ``, ''")
    -- a newline, a dot and bytes from 80 (hex) between quotes
    ∷ (value_as Quoted TK_ID (0x27 ∷ 0x0A ∷ 0x2E ∷ 0xC3 ∷ 0xA9 ∷ 0x27 ∷ []) ∷ m TK_DOT ∷ id Word "c" ∷ [], 0x27 ∷ 0x0A ∷ 0x2E ∷ 0xC3 ∷ 0xA9 ∷ 0x27 ∷ ascii ".c")
    -- bytes from 80 (hex), $ and _ in words
    ∷ (value_as Word TK_ID (0xC3 ∷ 0xA9 ∷ 0x31 ∷ []) ∷ m TK_DOT ∷ id Word "_x$1" ∷ [], 0xC3 ∷ 0xA9 ∷ 0x31 ∷ ascii "._x$1")
    -- numbers, beside marks that are no dots
    ∷ (m TK_LP ∷ id Number "0" ∷ m TK_COMMA ∷ value_as Number TK_FLOAT (ascii "12.50") ∷ m TK_RP ∷ id Number "3" ∷ semi_lined ∷ id Number "007" ∷ [], ascii "(0, 12.50) 3;\n007")
    -- variables
    ∷ (var "?" ∷ var "?12" ∷ m TK_COMMA ∷ var ":a" ∷ var "@b1" ∷ var "$c" ∷ m TK_DOT ∷ var ":9" ∷ [], ascii "? ?12, :a @b1 $c.:9")
    -- operators side by side
    ∷ (id Word "a" ∷ o TK_CONCAT ∷ o TK_MINUS ∷ o TK_MINUS ∷ id Number "1" ∷ value_as Operator TK_PTR (ascii "->>") ∷ o TK_BITNOT ∷ id Operator "==" ∷ o TK_STAR ∷ [], ascii "a || - - 1 ->> ~ == *")
    -- an X before a quote is a word
    ∷ (id Word "X" ∷ id Quoted "'00'" ∷ id Word "x" ∷ m TK_DOT ∷ id Quoted "'00'" ∷ [], ascii "X '00' x.'00'")
    -- marks in a row, and blobs between them
    ∷ (m TK_LP ∷ m TK_LP ∷ blob_of_none ∷ m TK_LP ∷ id Blob "X'00'" ∷ m TK_RP ∷ m TK_RP ∷ m TK_DOT ∷ m TK_DOT ∷ m TK_SEMI ∷ [], ascii "((X''(X'00'))..;")
    ∷ []

abbrev all_readable : List Example → Bool
all_readable [] = true
all_readable (e ∷ es) = readable e.0 && all_readable es

examples_readable : all_readable examples ≡ true
unfolding examples spelling row rows digit hex_digit word_first word_byte operators
examples_readable = refl

examples_texts : map (λ e. text true (map token_of e.0)) examples ≡ map (λ e. e.1) examples
unfolding examples text adds leaves added left gap gapped tight opens stream.blob spelled_bit written valued_bit all_blank blank spelling row rows
examples_texts = refl
