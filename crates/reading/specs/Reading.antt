-- 01, section 5: the reading rule. It goes by first bytes alone (R13), so it reads more than the list of lexemes.
use Rattle.std.specs.Prelude.{ℕ, ◌≡◌, List, [], ◌∷◌, ◌++◌, Bool, false, cond, ◌&&◌, eqb}
use Rattle.laws.specs.Among.{among}
use Rattle.laws.specs.First.{first}
use Rattle.reading.specs.Bytes.{digit, word_first, word_byte, blanks, variables, quotes, marks, exes, apostrophe}
use Rattle.reading.specs.Number.{Taken, taken, unclosed, after, takes, number}
use Rattle.reading.specs.Lexeme.{Kind, Word, Number, Quoted, Blob, Variable, Operator, Mark, operators}

-- "A byte that occurs in any listed operator"
abbrev pub joined : List (List ℕ) → List ℕ
joined [] = []
joined (w ∷ l) = w ++ joined l

unfoldable pub operator_byte : ℕ → Bool
operator_byte b = among b (joined operators)

-- what a byte begins
pub data Start : Type 0 where
  blank : Start
  mark : Start
  quote : Start
  digits : Start
  word : Start
  variable : Start
  operator : Start
  nothing : Start

unfoldable pub start : ℕ → Start
start b =
    first
    ((among b blanks, blank) ∷ (among b marks, mark) ∷ (among b quotes, quote) ∷ (digit b, digits)
    ∷ (word_first b, word) ∷ (among b variables, variable) ∷ (operator_byte b, operator) ∷ [])
    nothing

-- "through the next '"
unfoldable pub through : ℕ → List ℕ → Taken
through q [] = unclosed
through q (b ∷ t) = cond (eqb b q) (taken (b ∷ []) t) (after (b ∷ []) (through q t))

-- "to the first like quote not doubled"
unfoldable pub closing : ℕ → List ℕ → Taken
closing q [] = unclosed
closing q (b ∷ []) = cond (eqb b q) (taken (b ∷ []) []) unclosed
closing q (b ∷ c ∷ t) =
    cond (eqb b q)
    (cond (eqb c q) (after (b ∷ c ∷ []) (closing q t)) (taken (b ∷ []) (c ∷ t)))
    (after (b ∷ []) (closing q (c ∷ t)))

-- whether a ' is next
abbrev pub opened : List ℕ → Bool
opened [] = false
opened (b ∷ t) = eqb b apostrophe

-- ' and what follows it, through the next '
abbrev pub blobbed : List ℕ → Taken
blobbed [] = unclosed
blobbed (b ∷ t) = after (b ∷ []) (through apostrophe t)

-- one lexeme with what stands behind it; no lexeme more; or what cannot be read
pub data Read : Type 0 where
  lexeme : Kind → List ℕ → List ℕ → Read
  finish : Read
  failure : List ℕ → Read

-- "an unclosed quote ends the reading with failure"
abbrev pub answer : Kind → List ℕ → Taken → Read
answer κ t (taken w r) = lexeme κ w r
answer κ t unclosed = failure t

unfoldable pub read : List ℕ → Read
read [] = finish
read (b ∷ t) =
    elim (start b) [
      | blank ↦ read t
      | mark ↦ lexeme Mark (b ∷ []) t
      | quote ↦ answer Quoted (b ∷ t) (after (b ∷ []) (closing b t))
      | digits ↦ answer Number (b ∷ t) (number b t)
      | word ↦ cond (among b exes && opened t) (answer Blob (b ∷ t) (after (b ∷ []) (blobbed t))) (answer Word (b ∷ t) (after (b ∷ []) (takes word_byte t)))
      | variable ↦ answer Variable (b ∷ t) (after (b ∷ []) (takes word_byte t))
      | operator ↦ answer Operator (b ∷ t) (after (b ∷ []) (takes operator_byte t))
      | nothing ↦ failure (b ∷ t)
    ]

-- a lexeme's kind and its bytes
abbrev pub Lexed : Type 0
Lexed = Kind × List ℕ

-- a text cut from its beginning: its lexemes in order, and what could not be read; empty if the reading came to the end
pub data Cuts : List ℕ → List Lexed → List ℕ → Type 0 where
  ended : {t : List ℕ} → read t ≡ finish → Cuts t [] []
  failed : {t u : List ℕ} → read t ≡ failure u → Cuts t [] u
  next : {t w r u : List ℕ} {κ : Kind} {ls : List Lexed} → read t ≡ lexeme κ w r → Cuts r ls u → Cuts t ((κ, w) ∷ ls) u
