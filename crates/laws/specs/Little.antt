-- Little-endian: a number in k bytes, the lowest first, and the number of such bytes.
use Rattle.std.specs.Prelude.{ℕ, zero, suc, ◌+◌, ◌*◌, ◌/◌, ◌%◌, ◌≡◌, refl, List, [], ◌∷◌, take, get_or}
use Rattle.std.proofs.Common.{arith}

abbrev pub little : ℕ → ℕ → List ℕ
little zero n = []
little (suc k) n = n % 256 ∷ little k (n / 256)

abbrev pub from_little : List ℕ → ℕ
from_little [] = 0
from_little (b ∷ bs) = b + 256 * from_little bs

-- the number of the first four
pub of_four : (s : List ℕ) → get_or s 0 0 + 256 * (get_or s 1 0 + 256 * (get_or s 2 0 + 256 * get_or s 3 0)) ≡ from_little (take 4 s)
of_four [] = refl
of_four (a ∷ []) = refl
of_four (a ∷ b ∷ []) = refl
of_four (a ∷ b ∷ c ∷ []) = refl
of_four (a ∷ b ∷ c ∷ d ∷ s) = omega arith
