-- 01, section 1: the fixed spelling of a token number, and whether a token has the number (reading R1).
use Rattle.std.specs.Prelude.{ℕ, List, [], Bool, true, false, get_or}
use Rattle.spelling.specs.Rows.{Row, unknown, bare, fixed, rows}

-- past the last row no token has the number
unfoldable pub row : ℕ → Row
row k = get_or rows k unknown

abbrev pub is_known : Row → Bool
is_known unknown = false
is_known bare = true
is_known (fixed s) = true

abbrev pub spelled : Row → List ℕ
spelled unknown = []
spelled bare = []
spelled (fixed s) = s

unfoldable pub known : ℕ → Bool
known k = is_known (row k)

-- the fixed spelling, empty where there is none
unfoldable pub spelling : ℕ → List ℕ
spelling k = spelled (row k)
