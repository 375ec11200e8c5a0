-- The decimal text of a whole number, in ASCII: a minus where it is below 0, and its digits, the highest first, with no zero in front.
use Rattle.std.specs.Prelude.{ℕ, zero, suc, ◌+◌, ◌/◌, ◌%◌, List, [], ◌∷◌, ◌++◌, ℤ, pos, negsuc}
use Rattle.laws.specs.Text.{ascii}

-- the byte of a digit below 10
abbrev pub digit : ℕ → ℕ
digit d = 0x30 + d

-- nothing where there are no tens
abbrev pub tens : ℕ → (ℕ → List ℕ) → List ℕ
tens zero f = []
tens (suc t) f = f (suc t)

-- the digits of n's tens, where it has any, and then its last digit; k bounds how many digits there are
unfoldable pub digits : ℕ → ℕ → List ℕ
digits zero n = []
digits (suc k) n = tens (n / 10) (digits k) ++ digit (n % 10) ∷ []

-- a number n has at most n + 1 digits
unfoldable pub natural : ℕ → List ℕ
natural n = digits (suc n) n

-- `negsuc n` is the number -(n + 1)
abbrev pub magnitude : ℤ → ℕ
magnitude (pos n) = n
magnitude (negsuc n) = n + 1

abbrev pub sign : ℤ → List ℕ
sign (pos n) = []
sign (negsuc n) = ascii "-"

unfoldable pub decimal : ℤ → List ℕ
decimal z = sign z ++ natural (magnitude z)
