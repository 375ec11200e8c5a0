-- Streams that break one rule of section 5 each, and what their texts are cut into: not their spellings; and some that come back all the same.
use Rattle.std.specs.Prelude.{ℕ, suc, ◌≡◌, refl, List, [], ◌∷◌, Bool, true, false, ◌&&◌, eqb, length}
use Prim.Native.String.{String}
use Rattle.std.proofs.Common.{ap, sym, ◌∙◌, eq-eqb}
use Rattle.std.proofs.lemmas.Bool.{false≢true}
use Rattle.laws.specs.Text.{ascii}
use Rattle.blank.specs.Blank.{blank, all_blank}
use Rattle.spelling.specs.Rows.{rows}
use Rattle.spelling.specs.Spelling.{row, spelling}
use Rattle.spelling.specs.Token.{TK_BEGIN, TK_END, TK_ID, TK_DOT, TK_BLOB, TK_PLUS, TK_COLON, TK_ARRAY_CONTAINS, TK_ARRAY_OVERLAP}
use Rattle.stream.specs.Stream as stream
use Rattle.stream.specs.Stream.{Token, none, some, tight, opens, gap, gapped, spelled_bit, written, valued_bit, added, left, adds, leaves, text}
use Rattle.reading.specs.Bytes.{digit, word_first, word_byte}
use Rattle.reading.specs.Number.{takes, pointed, number}
use Rattle.reading.specs.Lexeme.{Word, Number, Quoted, Variable, Operator, Mark, operators}
use Rattle.reading.specs.Reading.{operator_byte, start, through, closing, read, Lexed, Cuts, ended, failed, next}
use Rattle.reading.specs.Readable.{Carried, done, next as more, Readable}
use Rattle.reading.proofs.Once.{cut_once}
use Rattle.reading.proofs.Demand3.{gives_back}

abbrev bare : ℕ → Token
bare k = record { kind = k; value = none }

abbrev with : ℕ → String → Token
with k v = record { kind = k; value = some (ascii v) }

-- a readable stream comes back whole: as many lexemes as it has tokens, and nothing left
abbrev came_back : List Token → List Lexed → List ℕ → Bool
came_back ts ls [] = eqb (length ls) (length ts)
came_back ts ls (b ∷ u) = false

as_many : (ts : List Token) (ls : List Lexed) → Carried ts ls → length ls ≡ length ts
as_many _ _ done = refl
as_many _ _ (more {ts = ts} {ls = ls} c d) = ap suc (as_many ts ls d)

pub not_readable : (ts : List Token) (ms : List Lexed) (u : List ℕ) → Cuts (text true ts) ms u → came_back ts ms u ≡ false → (ls : List Lexed) → Readable ts ls → ⊥
not_readable ts ms u c f ls r =
    let o : (ls ≡ ms) × ([] ≡ u) = cut_once (text true ts) ls ms [] u (gives_back ts ls r) c in
    let b : came_back ts ls [] ≡ true = eq-eqb (length ls) (length ts) (as_many ts ls r.carried) in
    false≢true (sym f ∙ rw (← o.0, ← o.1) b)

-- a stream, and what its text is cut into
record Tried : Type 0 where
  tokens : List Token
  lexemes : List Lexed
  left : List ℕ
  is : Cuts (text true tokens) lexemes left

-- one that does not come back, so that it is not readable, whatever it is said to carry
record Breaks : Type 0 where
  tried : Tried
  lost : came_back tried.tokens tried.lexemes tried.left ≡ false

breaks : (t : Tried) → came_back t.tokens t.lexemes t.left ≡ false → Breaks
breaks t h = record { tried = t; lost = h }

none_readable : (x : Breaks) (ls : List Lexed) → Readable x.tried.tokens ls → ⊥
none_readable x = let t : Tried = x.tried in not_readable t.tokens t.lexemes t.left t.is x.lost

broken : List Breaks
unfolding read start takes pointed number through closing digit word_first word_byte operator_byte operators text adds leaves added left gap gapped tight opens stream.blob spelled_bit written valued_bit all_blank blank spelling row rows
broken =
    -- a dot beside a number: `1.5`
    (breaks (record { tokens = with TK_ID "1" ∷ bare TK_DOT ∷ with TK_ID "5" ∷ []; lexemes = (Number, ascii "1.5") ∷ []; left = []; is = next refl (ended refl) }) refl)
    -- a fixed spelling with another value than a newline: `BEGINEND`
    ∷ (breaks (record { tokens = with TK_BEGIN "" ∷ bare TK_END ∷ []; lexemes = (Word, ascii "BEGINEND") ∷ []; left = []; is = next refl (ended refl) }) refl)
    -- the same with a tab, at which the reading fails
    ∷ (breaks (record { tokens = with TK_BEGIN "\t" ∷ bare TK_END ∷ []; lexemes = (Word, ascii "BEGIN") ∷ []; left = ascii "\tEND"; is = next refl (failed refl) }) refl)
    -- a fixed spelling that is no lexeme of the list: `@>`
    ∷ (breaks (record { tokens = bare TK_ARRAY_CONTAINS ∷ []; lexemes = (Variable, ascii "@") ∷ (Operator, ascii ">") ∷ []; left = []; is = next refl (next refl (ended refl)) }) refl)
    -- a kind with no fixed spelling and no value
    ∷ (breaks (record { tokens = bare TK_ID ∷ []; lexemes = []; left = []; is = ended refl }) refl)
    -- a value of two lexemes
    ∷ (breaks (record { tokens = with TK_ID "a b" ∷ []; lexemes = (Word, ascii "a") ∷ (Word, ascii "b") ∷ []; left = []; is = next refl (next refl (ended refl)) }) refl)
    -- a value of no lexeme, a quote that is not closed
    ∷ (breaks (record { tokens = with TK_ID "'a" ∷ []; lexemes = []; left = ascii "'a"; is = failed refl }) refl)
    -- a quote between quotes that is not doubled
    ∷ (breaks (record { tokens = with TK_ID "'a'b" ∷ []; lexemes = (Quoted, ascii "'a'") ∷ (Word, ascii "b") ∷ []; left = []; is = next refl (next refl (ended refl)) }) refl)
    -- TK_BLOB with a value that is no blob: `ab`
    ∷ (breaks (record { tokens = with TK_BLOB "a" ∷ with TK_ID "b" ∷ []; lexemes = (Word, ascii "ab") ∷ []; left = []; is = next refl (ended refl) }) refl)
    ∷ []

-- Where the list is stricter than the reading, a stream that breaks a rule may come back: it is not readable all the same, and nothing is claimed of it.
harmless : List Tried
unfolding read start takes pointed number through closing digit word_first word_byte operator_byte operators text adds leaves added left gap gapped tight opens stream.blob spelled_bit written valued_bit all_blank blank spelling row rows
harmless =
    -- a dot before a number: `a.5`
    record { tokens = with TK_ID "a" ∷ bare TK_DOT ∷ with TK_ID "5" ∷ []; lexemes = (Word, ascii "a") ∷ (Mark, ascii ".") ∷ (Number, ascii "5") ∷ []; left = []; is = next refl (next refl (next refl (ended refl))) }
    -- `&&`, which is no listed operator
    ∷ record { tokens = bare TK_ARRAY_OVERLAP ∷ []; lexemes = (Operator, ascii "&&") ∷ []; left = []; is = next refl (ended refl) }
    -- `:`, which is no variable of the list
    ∷ record { tokens = bare TK_COLON ∷ []; lexemes = (Variable, ascii ":") ∷ []; left = []; is = next refl (ended refl) }
    -- an operator with a newline
    ∷ record { tokens = with TK_PLUS "\n" ∷ with TK_ID "a" ∷ []; lexemes = (Operator, ascii "+") ∷ (Word, ascii "a") ∷ []; left = []; is = next refl (next refl (ended refl)) }
    -- a mark as a value
    ∷ record { tokens = with TK_ID "(" ∷ with TK_ID "a" ∷ []; lexemes = (Mark, ascii "(") ∷ (Word, ascii "a") ∷ []; left = []; is = next refl (next refl (ended refl)) }
    ∷ []
