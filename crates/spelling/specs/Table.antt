-- The spelling table's form: for each number below 194 a row, which is an offset into the pool and a length, and the pool, whose bytes are lent.
use Rattle.std.specs.Prelude.{ℕ, ◌+◌, ◌*◌, ◌/◌, ◌%◌, List, [], ◌∷◌, ◌++◌, cond, leb, length, get_or, take, drop}
use Rattle.spelling.specs.Rows.{Row, rows}
use Rattle.spelling.specs.Spelling.{spelled}

abbrev pub rows_held : ℕ
rows_held = 194

-- lengths are below this number
abbrev pub lengths : ℕ
lengths = 16

-- the rows, whose spellings stand in the pool from an offset on
abbrev pub heads : ℕ → List Row → List ℕ
heads at [] = []
heads at (r ∷ rs) = (at * lengths + length (spelled r)) ∷ heads (at + length (spelled r)) rs

-- the spellings, one behind the other
abbrev pub pool : List Row → List ℕ
pool [] = []
pool (r ∷ rs) = spelled r ++ pool rs

-- the pool
unfoldable pub bytes : List ℕ
bytes = pool (take rows_held rows)

-- the row of a number; past the last it is 0, an empty spelling
unfoldable pub row_of : ℕ → ℕ
row_of k = get_or (heads 0 (take rows_held rows)) k 0

-- the n bytes from i on, if they are all there
unfoldable pub within : List ℕ → ℕ → ℕ → List ℕ
within t i n = cond (leb (i + n) (length t)) (take n (drop i t)) []

-- what a lent pool spells k as
unfoldable pub spelling_in : List ℕ → ℕ → List ℕ
spelling_in t k = within t (row_of k / lengths) (row_of k % lengths)
