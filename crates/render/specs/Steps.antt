-- What the parts of a whole-tree call do: the text is counted and written, and a draft of it is kept.
use Rattle.std.specs.Prelude.{ℕ, ◌≤◌, ◌≡◌, List, length, take}
use Rattle.std.proofs.lemmas.List.Edits.{sets}
use Rattle.mode.specs.declared.Edition.{Edition}
use Rattle.stream.specs.Sink.{count}
use Rattle.render.specs.Render.{text_in}

-- the count that the sink comes to
unfoldable pub counted : Edition → List ℕ → List ℕ → ℕ
counted v t x = count 0 (length (text_in v t x))

-- the text stored from the output's first byte on, as much of it as there is room for, and the count
pub record Writes (v : Edition) (t x out : List ℕ) (n : ℕ) (out' : List ℕ) : Type 0 where
  pub counts : n ≡ counted v t x
  pub stores : out' ≡ sets out 0 (text_in v t x)

-- a draft that has room for the text begins with it
abbrev pub Drafted : Edition → List ℕ → List ℕ → List ℕ → Type 0
Drafted v t x d = length (text_in v t x) ≤ length d → take (length (text_in v t x)) d ≡ text_in v t x
