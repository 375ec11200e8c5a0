-- 02, iii: how one lexeme of a text crosses to the engine: its kind, where it starts, and where the rest of the text does.
use Rattle.std.specs.Prelude.{ℕ, ◌-◌, ◌≤◌, ◌≡◌, List, length, drop}
use Rattle.std.proofs.Common.{arith, ap, length-drop}
use Rattle.reader.specs.Reader.{Gives}
use Rattle.reader.specs.Cut as cut
use Rattle.reader.proofs.Cut.{rest_is}

-- the rest is the text from its place on
pub record Lexed (t : List ℕ) (kind start rest : ℕ) : Type 0 where
  pub gives : Gives t kind start (drop rest t)
  pub within : rest ≤ length t

-- the rest that is handed back is told by its place
pub crossed : (t : List ℕ) (k s : ℕ) (r : List ℕ) → Gives t k s r → Lexed t k s (length t - length r)
crossed t k s r g = record { gives = rw (rest_is t k s r g) g; within = omega arith }

-- no two outcomes satisfy it
pub unique : (t : List ℕ) (k s r k' s' r' : ℕ) → Lexed t k s r → Lexed t k' s' r' → (k ≡ k') × ((s ≡ s') × (r ≡ r'))
unique t k s r k' s' r' g h =
    let same = cut.unique t k s k' s' (drop r t) (drop r' t) g.gives h.gives in
    (same.0, (same.1.0, omega (arith, ap length same.1.1, length-drop r t, length-drop r' t, g.within, h.within)))
