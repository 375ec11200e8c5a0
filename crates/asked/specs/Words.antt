-- 02, vii and viii: the words that a program takes in front of the names of its files, and the option that each asks for.
use Rattle.std.specs.Prelude.{ℕ, List, [], ◌∷◌}
use Rattle.laws.specs.Bytes.{same}
use Rattle.laws.specs.First.{first}
use Rattle.laws.specs.Text.{ascii}

-- bit 0 is the switch and bit 1 the SQLite edition; any other word is the first name
unfoldable pub option_of : List ℕ → ℕ
option_of w = first ((same w (ascii "--strict"), 1) ∷ (same w (ascii "--sqlite"), 2) ∷ []) 0
