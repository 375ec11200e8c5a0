-- The program's names of the kinds of lexemes, which have the kinds' numbers.
use Rattle.std.specs.Prelude.{◌≡◌, refl}
use Rattle.reading.specs.Lexeme.{Kind, Word, Number, Quoted, Blob, Variable, Operator, Mark}
use Rattle.reader.specs.Reader.{number}
use Rattle.reader.specs.Kinds.{number_of}
use Rattle.reader.specs.declared.Kind.{Kind as Name}
use Rattle.reader.specs.declared.Kind.TheVariants as name

abbrev pub named : Kind → Name
named Word = name.Word
named Number = name.Number
named Quoted = name.Quoted
named Blob = name.Blob
named Variable = name.Variable
named Operator = name.Operator
named Mark = name.Mark

pub numbered : (κ : Kind) → number_of (named κ) ≡ number κ
numbered Word = refl
numbered Number = refl
numbered Quoted = refl
numbered Blob = refl
numbered Variable = refl
numbered Operator = refl
numbered Mark = refl
