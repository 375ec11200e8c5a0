-- 01, section 1: "all its bytes are 09, 0A, 0C, 0D or 20 (hex). The empty value counts as all blank; 0B is not blank here."
use Rattle.std.specs.Prelude.{ℕ, List, [], ◌∷◌, Bool}
use Rattle.laws.specs.Among.{among, all}

unfoldable pub blank : ℕ → Bool
blank b = among b (0x09 ∷ 0x0A ∷ 0x0C ∷ 0x0D ∷ 0x20 ∷ [])

unfoldable pub all_blank : List ℕ → Bool
all_blank v = all blank v
