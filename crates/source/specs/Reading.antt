-- The states of the byte-by-byte reading, as places of the definition: behind a byte that may be half of a mark, that byte is still to be read.
use Rattle.std.specs.Prelude.{ℕ, ◌≡◌, List, ◌∷◌}
use Rattle.source.specs.Source.{Where, outside, line_comment, block_comment, quote, dash, slash, star, ends}
use Rattle.source.specs.declared.At.{At}
use Rattle.source.specs.declared.At.TheVariants.{Outside, Dash, Slash, Line, Block, Star, Quote}

-- where the reading ends that goes on from a state over the bytes that are left
abbrev pub from : At → List ℕ → Where
from Outside s = ends s outside
from Dash s = ends (dash ∷ s) outside
from Slash s = ends (slash ∷ s) outside
from Line s = ends s line_comment
from Block s = ends s block_comment
from Star s = ends (star ∷ s) block_comment
from (Quote q) s = ends s (quote q)

-- a byte leads from a state to another: whatever is left behind it, the reading ends in the same place
abbrev pub Leads : At → ℕ → At → Type 0
Leads at b to = (s : List ℕ) → from at (b ∷ s) ≡ from to s
