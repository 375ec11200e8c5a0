-- Bytes behind a space, all of them or none: what `lay_all` answers, and what it leaves in the output.
use Rattle.std.specs.Prelude.{ℕ, ◌+◌, List, [], ◌++◌, Bool, Option, Some, None, cond, ◌&&◌, leb, ltb, length}
use Rattle.std.proofs.lemmas.List.Edits.{sets}
use Rattle.laws.specs.Text.{ascii}

-- the largest number of the machine
abbrev pub most : ℕ
most = 0xffff_ffff_ffff_ffff

-- what stands before the bytes: a space, or nothing where there is one
unfoldable pub lead : Bool → List ℕ
lead spaced = cond spaced [] (ascii " ")

-- there are bytes, and a space and all of them have room in an output of size bytes from at on
unfoldable pub room_for : ℕ → ℕ → List ℕ → Bool
room_for at size v = ltb 0 (length v) && leb (at + (1 + length v)) size

unfoldable pub laid_to : ℕ → ℕ → Bool → List ℕ → Option ℕ
laid_to at size spaced v = cond (room_for at size v) (Some (at + length (lead spaced ++ v))) None

unfoldable pub laid_out : ℕ → List ℕ → Bool → List ℕ → List ℕ
laid_out at out spaced v = cond (room_for at (length out) v) (sets out at (lead spaced ++ v)) out
