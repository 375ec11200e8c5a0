-- Examples: the three records of 01, section 6, and five numbers.
use Rattle.std.specs.Prelude.{ℕ, ◌≡◌, refl, List, [], ◌∷◌, ◌++◌, true, replicate, ℤ, pos, negsuc}
use Rattle.record.specs.Record.{record_of, count, bytes_at, record_at, mark_ok, signed, number_of}

abbrev tree : List ℕ
tree =
    0x53 ∷ 0x4E ∷ 0x0A ∷ 0x00 ∷ 0x00 ∷ 0x00 ∷ 0x01 ∷ 0x00 ∷ 0x00 ∷ 0x00 ∷ 0x00 ∷ 0x00 ∷ 0x00 ∷ 0x00 ∷ 0x00 ∷ 0x00
    ∷ 0x53 ∷ 0x4E ∷ 0x3D ∷ 0x00 ∷ 0x01 ∷ 0x00 ∷ 0x01 ∷ 0x00 ∷ 0x00 ∷ 0x00 ∷ 0x00 ∷ 0x00 ∷ 0x00 ∷ 0x00 ∷ 0x00 ∷ 0x00
    ∷ 0x53 ∷ 0x4E ∷ 0x04 ∷ 0x00 ∷ 0x00 ∷ 0x00 ∷ 0x00 ∷ 0x00 ∷ 0x00 ∷ 0x00 ∷ 0x00 ∷ 0x00 ∷ 0x03 ∷ 0x00 ∷ 0x00 ∷ 0x00
    ∷ []

three : count tree ≡ 3
three = refl

first : record_at tree 0 ≡ record { mark = 0x4E53; kind = 10; flags = 0; kids = 1; start = 0; len = 0 }
unfolding record_at bytes_at
first = refl

second : record_at tree 1 ≡ record { mark = 0x4E53; kind = 61; flags = 1; kids = 1; start = 0; len = 0 }
unfolding record_at bytes_at
second = refl

third : record_at tree 2 ≡ record { mark = 0x4E53; kind = 4; flags = 0; kids = 0; start = 0; len = 3 }
unfolding record_at bytes_at
third = refl

marked : mark_ok (record_at tree 0) ≡ true
unfolding record_at bytes_at
marked = refl

-- the number of a record whose bytes 8 to 15 are given
abbrev number : List ℕ → ℤ
number bs = number_of (record_of (0x53 ∷ 0x4E ∷ replicate 6 0x00 ++ bs))

zero_is : number (replicate 8 0x00) ≡ pos 0
unfolding number_of signed
zero_is = refl

one_is : number (0x01 ∷ replicate 7 0x00) ≡ pos 1
unfolding number_of signed
one_is = refl

minus_one_is : number (replicate 8 0xFF) ≡ negsuc 0
unfolding number_of signed
minus_one_is = refl

highest_is : number (replicate 7 0xFF ++ 0x7F ∷ []) ≡ pos 9223372036854775807
unfolding number_of signed
highest_is = refl

lowest_is : number (replicate 7 0x00 ++ 0x80 ∷ []) ≡ negsuc 9223372036854775807
unfolding number_of signed
lowest_is = refl
