-- 02, iii: "prints one lexeme a line as kind, start and length in decimal".
use Rattle.std.specs.Prelude.{ℕ, ◌+◌, ◌≡◌, List, [], ◌∷◌, ◌++◌, eqb, length}
use Rattle.std.proofs.lemmas.List.Edits.{sets}
use Rattle.laws.specs.Among.{is_nil}
use Rattle.laws.specs.First.{first}
use Rattle.laws.specs.Text.{ascii}
use Rattle.decimal.specs.Decimal.{natural}
use Rattle.reading.specs.Lexeme.{Word, Number, Quoted, Blob, Variable, Operator, Mark}
use Rattle.reader.specs.Reader.{number, stop}

-- a space and a number in decimal
unfoldable pub spaced : ℕ → List ℕ
spaced n = ascii " " ++ natural n

-- the name of a kind by its number; none where no kind has it
unfoldable pub name_of : ℕ → List ℕ
name_of k =
    first
    ((eqb k (number Word), ascii "word") ∷ (eqb k (number Number), ascii "number") ∷ (eqb k (number Quoted), ascii "quoted") ∷ (eqb k (number Blob), ascii "blob")
    ∷ (eqb k (number Variable), ascii "variable") ∷ (eqb k (number Operator), ascii "operator") ∷ (eqb k (number Mark), ascii "mark") ∷ [])
    []

-- "a failure prints `stop` with its position"; the end prints nothing
unfoldable pub line_of : ℕ → ℕ → ℕ → List ℕ
line_of k start len =
    first
    ((eqb k stop, ascii "stop" ++ (spaced start ++ ascii "\n")) ∷ (is_nil (name_of k), []) ∷ [])
    (name_of k ++ (spaced start ++ (spaced len ++ ascii "\n")))

-- bytes stored in an output from a place on, as far as there is room, and the place behind them
pub record Stored (out : List ℕ) (at : ℕ) (bytes out' : List ℕ) (at' : ℕ) : Type 0 where
  pub stored : out' ≡ sets out at bytes
  pub behind : at' ≡ at + length bytes
