-- 02's numbers of what a text may have next, by the names that the program has for them.
use Rattle.std.specs.Prelude.{ℕ, ◌≡◌, ◌<◌, Result, MatchResult}
use Rattle.reading.specs.Lexeme as lexeme
use Rattle.reader.specs.Reader.{number, end, stop}
use Rattle.reader.specs.declared.Kind.{Kind}
use Rattle.reader.specs.declared.UnknownKind.{UnknownKind}
use Rattle.reader.specs.declared.Kind.TheVariants.{End, Word, Number, Quoted, Blob, Variable, Operator, Mark, Stop}

abbrev pub number_of : Kind → ℕ
number_of End = end
number_of Word = number lexeme.Word
number_of Number = number lexeme.Number
number_of Quoted = number lexeme.Quoted
number_of Blob = number lexeme.Blob
number_of Variable = number lexeme.Variable
number_of Operator = number lexeme.Operator
number_of Mark = number lexeme.Mark
number_of Stop = stop

-- the kind that has a number, if one has it
abbrev pub Names : ℕ → Result Kind UnknownKind → Type 0
Names n r = MatchResult r (λ kind. number_of kind ≡ n) (λ _. stop < n)
