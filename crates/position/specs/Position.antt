-- 02, ix: where a text ends, "the line number and the bytes since the last newline, both from 0". Both are functions of its bytes.
use Rattle.std.specs.Prelude.{ℕ, ◌+◌, List, [], ◌∷◌, cond, eqb}

-- the newlines of a byte, and of some bytes: the line on which they end
abbrev pub newline : ℕ → ℕ
newline x = cond (eqb x 0x0A) 1 0

unfoldable pub lines : List ℕ → ℕ
lines [] = 0
lines (x ∷ s) = newline x + lines s

-- a newline sets the column to 0, any other byte adds one
abbrev pub next : ℕ → ℕ → ℕ
next c x = cond (eqb x 0x0A) 0 (c + 1)

-- the column after some bytes that begin at column c
unfoldable pub column : ℕ → List ℕ → ℕ
column c [] = c
column c (x ∷ s) = column (next c x) s
