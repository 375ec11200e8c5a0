-- 01, section 5: the carriers, and a readable stream.
use Rattle.std.specs.Prelude.{ℕ, ◌≡◌, List, [], ◌∷◌, Bool, true, false, not, ◌||◌, ◌&&◌, eqb}
use Rattle.laws.specs.Bytes.{same}
use Rattle.laws.specs.Text.{ascii}
use Rattle.spelling.specs.Token.{TK_BLOB}
use Rattle.spelling.specs.Spelling.{spelling}
use Rattle.stream.specs.Stream.{Token, Value, none, some}
use Rattle.reading.specs.Bytes.{dot, newline}
use Rattle.reading.specs.Lexeme.{Kind, Word, Number, Quoted, Blob, Variable, Operator, Mark, Lexeme}
use Rattle.reading.specs.Reading.{Lexed}

abbrev pub is_number : Kind → Bool
is_number Word = false
is_number Number = true
is_number Quoted = false
is_number Blob = false
is_number Variable = false
is_number Operator = false
is_number Mark = false

abbrev pub is_mark : Kind → Bool
is_mark Word = false
is_mark Number = false
is_mark Quoted = false
is_mark Blob = false
is_mark Variable = false
is_mark Operator = false
is_mark Mark = true

-- "a word, operator or mark"
pub data Fixed : Kind → Type 0 where
  word : Fixed Word
  operator : Fixed Operator
  mark : Fixed Mark

-- a token of kind k with value v carries a lexeme and is spelled w
pub data Carries (k : ℕ) : Value → Kind → List ℕ → Type 0 where
  -- "a fixed spelling that is a word, operator or mark, with no value"
  fixed : {κ : Kind} {w : List ℕ} → spelling k ≡ w → Fixed κ → Lexeme κ w → Carries k none κ w
  -- "a fixed word or ; with a value of one newline (spelling without the newline)"
  word_line : {w : List ℕ} → spelling k ≡ w → Lexeme Word w → Carries k (some (newline ∷ [])) Word w
  semi_line : spelling k ≡ ascii ";" → Carries k (some (newline ∷ [])) Mark (ascii ";")
  -- "a kind with no fixed spelling and a value of one lexeme other than a mark"
  valued : {κ : Kind} {w : List ℕ} → eqb k TK_BLOB ≡ false → spelling k ≡ [] → is_mark κ ≡ false → Lexeme κ w → Carries k (some w) κ w
  -- "TK_BLOB only with a blob or no value (spelling then X'')"
  blob : {w : List ℕ} → eqb k TK_BLOB ≡ true → Lexeme Blob w → Carries k (some w) Blob w
  no_blob : eqb k TK_BLOB ≡ true → Carries k none Blob (ascii "X''")

-- "no spelling . next before or after a number"
abbrev pub is_dot : List ℕ → Bool
is_dot w = same w (dot ∷ [])

abbrev pub beside : Lexed → Lexed → Bool
beside a b = (is_number a.0 && is_dot b.1) || (is_dot a.1 && is_number b.0)

abbrev pub no_dot_beside_number : List Lexed → Bool
no_dot_beside_number [] = true
no_dot_beside_number (a ∷ []) = true
no_dot_beside_number (a ∷ b ∷ ls) = not (beside a b) && no_dot_beside_number (b ∷ ls)

-- each token of a stream carries a lexeme
pub data Carried : List Token → List Lexed → Type 0 where
  done : Carried [] []
  next : {t : Token} {ts : List Token} {κ : Kind} {w : List ℕ} {ls : List Lexed} → Carries t.kind t.value κ w → Carried ts ls → Carried (t ∷ ts) ((κ, w) ∷ ls)

-- a readable stream, with its lexemes: "each token is one lexeme of 01's list, in the carriers listed there, and no dot stands beside a number"
pub record Readable (ts : List Token) (ls : List Lexed) : Type 0 where
  pub carried : Carried ts ls
  pub apart : no_dot_beside_number ls ≡ true
