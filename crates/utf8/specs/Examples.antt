-- Examples: characters of two, three and four bytes, bytes that are no text, and which of these are cut off. Assumes nothing.
use Rattle.std.specs.Prelude.{ℕ, [], ◌∷◌, T, leb}
use Rattle.std.proofs.Common.{arith, leb→le}
use Rattle.utf8.specs.Rfc3629.{In, Char, two, three_E1, four_F0, four_F4, Begins}

byte : (a b x : ℕ) → T (leb a x) → T (leb x b) → In a b x
byte a b x h k = record { low = leb→le a x h; high = leb→le x b k }

-- é, U+00E9
two_bytes : Char (0xC3 ∷ 0xA9 ∷ [])
two_bytes = two (byte 0xC2 0xDF 0xC3 tt tt) (byte 0x80 0xBF 0xA9 tt tt)

-- €, U+20AC
three_bytes : Char (0xE2 ∷ 0x82 ∷ 0xAC ∷ [])
three_bytes = three_E1 (byte 0xE1 0xEC 0xE2 tt tt) (byte 0x80 0xBF 0x82 tt tt) (byte 0x80 0xBF 0xAC tt tt)

-- 😀, U+1F600
four_bytes : Char (0xF0 ∷ 0x9F ∷ 0x98 ∷ 0x80 ∷ [])
four_bytes = four_F0 (byte 0xF0 0xF0 0xF0 tt tt) (byte 0x90 0xBF 0x9F tt tt) (byte 0x80 0xBF 0x98 tt tt) (byte 0x80 0xBF 0x80 tt tt)

-- the last character, U+10FFFF
last : Char (0xF4 ∷ 0x8F ∷ 0xBF ∷ 0xBF ∷ [])
last = four_F4 (byte 0xF4 0xF4 0xF4 tt tt) (byte 0x80 0x8F 0x8F tt tt) (byte 0x80 0xBF 0xBF tt tt) (byte 0x80 0xBF 0xBF tt tt)

-- what is there of it is a proper beginning: €, one byte short
cut_off : Begins (0xE2 ∷ 0x82 ∷ [])
cut_off = record { some = omega arith; missing = 0xAC ∷ []; short = omega arith; char = three_bytes }
