-- 01, section 5: the list of lexemes.
use Rattle.std.specs.Prelude.{ℕ, ◌≡◌, List, [], ◌∷◌, Bool, true, false, ◌||◌, eqb}
use Rattle.laws.specs.Among.{among, all}
use Rattle.laws.specs.Bytes.{same}
use Rattle.laws.specs.Text.{ascii}
use Rattle.reading.specs.Bytes.{digit, hex_digit, word_first, word_byte, quotes, marks, exes, apostrophe}
use Rattle.reading.specs.Number.{Numeral}

pub data Kind : Type 0 where
  Word : Kind
  Number : Kind
  Quoted : Kind
  Blob : Kind
  Variable : Kind
  Operator : Kind
  Mark : Kind

-- "+ - * / % = == <> != < <= > >= << >> & | || ~ -> ->>"
unfoldable pub operators : List (List ℕ)
operators =
    ascii "+" ∷ ascii "-" ∷ ascii "*" ∷ ascii "/" ∷ ascii "%" ∷ ascii "=" ∷ ascii "==" ∷ ascii "<>" ∷ ascii "!=" ∷ ascii "<" ∷ ascii "<="
    ∷ ascii ">" ∷ ascii ">=" ∷ ascii "<<" ∷ ascii ">>" ∷ ascii "&" ∷ ascii "|" ∷ ascii "||" ∷ ascii "~" ∷ ascii "->" ∷ ascii "->>" ∷ []

abbrev pub listed : List ℕ → List (List ℕ) → Bool
listed w [] = false
listed w (x ∷ l) = same w x || listed w l

-- behind an opening quote q: bytes other than q, and q doubled, and then q
pub data Quotation (q : ℕ) : List ℕ → Type 0 where
  close : Quotation q (q ∷ [])
  doubled : {v : List ℕ} → Quotation q v → Quotation q (q ∷ q ∷ v)
  other : {b : ℕ} {v : List ℕ} → eqb b q ≡ false → Quotation q v → Quotation q (b ∷ v)

-- behind a blob's opening quote: pairs of hex digits, and then the quote
pub data Pairs : List ℕ → Type 0 where
  close : Pairs (apostrophe ∷ [])
  pair : {a b : ℕ} {v : List ℕ} → hex_digit a ≡ true → hex_digit b ≡ true → Pairs v → Pairs (a ∷ b ∷ v)

pub data Lexeme : Kind → List ℕ → Type 0 where
  word : {b : ℕ} {v : List ℕ} → word_first b ≡ true → all word_byte v ≡ true → Lexeme Word (b ∷ v)
  number : {w : List ℕ} → Numeral w → Lexeme Number w
  quoted : {q : ℕ} {v : List ℕ} → among q quotes ≡ true → Quotation q v → Lexeme Quoted (q ∷ v)
  blob : {x : ℕ} {v : List ℕ} → among x exes ≡ true → Pairs v → Lexeme Blob (x ∷ apostrophe ∷ v)
  numbered : {b : ℕ} {v : List ℕ} → among b (ascii "?") ≡ true → all digit v ≡ true → Lexeme Variable (b ∷ v)
  named : {b c : ℕ} {v : List ℕ} → among b (ascii ":@$") ≡ true → word_byte c ≡ true → all word_byte v ≡ true → Lexeme Variable (b ∷ c ∷ v)
  operator : {w : List ℕ} → listed w operators ≡ true → Lexeme Operator w
  mark : {b : ℕ} → among b marks ≡ true → Lexeme Mark (b ∷ [])
