-- A law of replay, for the proofs of its functions.
use Rattle.std.specs.Prelude.{ℕ, ◌≤◌, ◌≡◌, List, length, Ok}
use Rattle.append.specs.declared.Stream.{Stream}
use Rattle.append.specs.Append.{Answer, Appends}
use Rattle.append.specs.Lists.{succeeds}

-- where append answers that it added, the bytes had room
pub had_room : (rec : Stream) (out : List ℕ) (token : ℕ) (value : List ℕ) (a : Answer) (rec' : Stream) (out' : List ℕ) (n : ℕ)
    → Appends rec out token value a rec' out' → a ≡ Ok n → rec'.count ≤ length out
had_room rec out token value a rec' out' n x e = (succeeds {n = n} (rw e at x)).fits
