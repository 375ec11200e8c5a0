-- 02, iii: "a call gives one lexeme's kind and hands back the rest of the caller's text, starting right after the lexeme".
use Rattle.std.specs.Prelude.{ℕ, ◌+◌, ◌≡◌, List, [], length}
use Rattle.reading.specs.Lexeme.{Kind, Word, Number, Quoted, Blob, Variable, Operator, Mark}
use Rattle.reading.specs.Reading.{Read, lexeme, finish, failure, read}

-- the numbers of the kinds, of the end and of a failure
abbrev pub number : Kind → ℕ
number Word = 1
number Number = 2
number Quoted = 3
number Blob = 4
number Variable = 5
number Operator = 6
number Mark = 7

abbrev pub end : ℕ
end = 0

abbrev pub stop : ℕ
stop = 8

-- what a reading comes to in a text of so many bytes: the kind, where the lexeme starts, and the rest. "Blanks at the end, or no text, give an end
-- answer and an empty rest"; a failure is told by "the first byte of what could not be read, where the rest then starts".
abbrev pub GivesOf : Read → ℕ → ℕ → ℕ → List ℕ → Type 0
GivesOf (lexeme κ w r) n kind start rest = (kind ≡ number κ) × ((start + length w + length r ≡ n) × (rest ≡ r))
GivesOf finish n kind start rest = (kind ≡ end) × ((start ≡ n) × (rest ≡ []))
GivesOf (failure u) n kind start rest = (kind ≡ stop) × ((start + length u ≡ n) × (rest ≡ u))

abbrev pub Gives : List ℕ → ℕ → ℕ → List ℕ → Type 0
Gives t = GivesOf (read t) (length t)
