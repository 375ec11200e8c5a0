-- The powers of ten that the code looks up.
use Rattle.std.specs.Prelude.{ℕ, List, [], ◌∷◌, get_or}

-- how many there are: a number of 64 bits, without its sign, has no more digits
abbrev pub most : ℕ
most = 19

abbrev pub powers : List ℕ
powers =
    1
    ∷ 10
    ∷ 100
    ∷ 1000
    ∷ 10000
    ∷ 100000
    ∷ 1000000
    ∷ 10000000
    ∷ 100000000
    ∷ 1000000000
    ∷ 10000000000
    ∷ 100000000000
    ∷ 1000000000000
    ∷ 10000000000000
    ∷ 100000000000000
    ∷ 1000000000000000
    ∷ 10000000000000000
    ∷ 100000000000000000
    ∷ 1000000000000000000
    ∷ []

unfoldable pub power : ℕ → ℕ
power k = get_or powers k 0
