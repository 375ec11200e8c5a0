-- 01, section 5: the sorts of bytes.
use Rattle.std.specs.Prelude.{ℕ, List, [], Bool, ◌||◌, ◌&&◌, leb}
use Rattle.laws.specs.Among.{among}
use Rattle.laws.specs.Text.{ascii}

unfoldable pub digit : ℕ → Bool
digit b = among b (ascii "0123456789")

unfoldable pub hex_digit : ℕ → Bool
hex_digit b = among b (ascii "0123456789ABCDEFabcdef")

-- "an ASCII letter, _ or byte from 80 (hex)"
unfoldable pub word_first : ℕ → Bool
word_first b = (leb 0x41 b && leb b 0x5A) || ((leb 0x61 b && leb b 0x7A) || (among b (ascii "_") || leb 0x80 b))

-- "then those, digits or $"
unfoldable pub word_byte : ℕ → Bool
word_byte b = word_first b || (digit b || among b (ascii "$"))

-- "spaces and newlines"
abbrev pub blanks : List ℕ
blanks = ascii " \n"

-- "?"; ":, @, $"
abbrev pub variables : List ℕ
variables = ascii "?:@$"

-- "', \" or backtick"
abbrev pub quotes : List ℕ
quotes = ascii "'\"`"

-- ", ; ( ) . [ ]"
abbrev pub marks : List ℕ
marks = ascii ",;().[]"

-- "X or x"
abbrev pub exes : List ℕ
exes = ascii "Xx"

abbrev pub apostrophe : ℕ
apostrophe = 0x27

abbrev pub dot : ℕ
dot = 0x2E

abbrev pub newline : ℕ
newline = 0x0A
