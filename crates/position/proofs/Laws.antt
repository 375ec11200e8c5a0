-- Laws of lines and columns: of bytes in two parts, of bytes with no newline, and that the column is what stands behind the last newline.
use Rattle.std.specs.Prelude.{ℕ, ◌+◌, ◌≤◌, ◌<◌, ◌≡◌, List, [], ◌∷◌, length, take, get_or}
use Rattle.std.proofs.Common.{arith, add-one, length-take-le}
use Rattle.std.proofs.Math.Seq.{take-suc}
use Rattle.position.specs.Position.{newline, lines, next, column}
use Rattle.position.specs.Laws.{lines_append, column_append, lines_length, one_more}

pub column_length : (c : ℕ) (s : List ℕ) → column c s ≤ c + length s
unfolding column
column_length c [] = omega arith
column_length c (x ∷ s) = omega (arith, column_length (next c x) s, one_more c x)

-- ---- a byte more
module _ (s : List ℕ) (i : ℕ) (h : i < length s) where
  pub lines_more : lines (take (i + 1) s) ≡ lines (take i s) + newline (get_or s i 0)
  unfolding lines
  lines_more = rw (add-one, take-suc s i 0, lines_append (take i s) (get_or s i 0 ∷ [])) (omega arith)

  pub column_more : column 0 (take (i + 1) s) ≡ next (column 0 (take i s)) (get_or s i 0)
  unfolding column
  column_more = rw (add-one i, take-suc s i 0, column_append 0 (take i s) (get_or s i 0 ∷ []))

  -- and neither leaves the bytes
  pub lines_within : lines (take i s) + newline (get_or s i 0) ≤ length s
  lines_within = omega (arith, lines_more, lines_length (take (i + 1) s), length-take-le (i + 1) s (omega arith))

  pub column_within : column 0 (take i s) + 1 ≤ length s
  column_within = omega (arith, column_length 0 (take i s), length-take-le i s (omega arith))
