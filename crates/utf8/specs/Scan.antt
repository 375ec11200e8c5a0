-- The length of the character that begins a row of bytes, as the code finds it: by the count of ones at the top of its first byte.
-- `Characters` shows that this is the RFC's. And whether the row is a proper beginning of a character, which `Beginnings` shows. Assumes nothing.
use Rattle.std.specs.Prelude.{ℕ, List, [], ◌∷◌, Bool, true, false, cond, ◌&&◌, leb, ltb, eqb, length, get_or, Err}
use Rattle.utf8.specs.declared.Broken.TheVariants.{Bad, Cut}
use Rattle.utf8.specs.Rfc3629.{Encoding, tail}

-- how many ones a byte has at its top
unfoldable pub ones : ℕ → ℕ
ones b =
    cond (ltb b 0x80) 0
    (cond (ltb b 0xC0) 1
    (cond (ltb b 0xE0) 2
    (cond (ltb b 0xF0) 3
    (cond (ltb b 0xF8) 4
    (cond (ltb b 0xFC) 5
    (cond (ltb b 0xFE) 6
    (cond (ltb b 0xFF) 7 8)))))))

-- the second byte after the lead a: a tail, with a higher start after E0 and F0 and a lower end after ED and F4
unfoldable pub low : ℕ → ℕ
low a = cond (eqb a 0xE0) 0xA0 (cond (eqb a 0xF0) 0x90 0x80)

unfoldable pub high : ℕ → ℕ
high a = cond (eqb a 0xED) 0x9F (cond (eqb a 0xF4) 0x8F 0xBF)

abbrev pub second : ℕ → ℕ → Bool
second a b = leb (low a) b && leb b (high a)

-- the bytes are a character, if the first has two, three or four ones
abbrev pub pair : List ℕ → Bool
pair s = leb 0xC2 (get_or s 0 0) && tail (get_or s 1 0)

abbrev pub triple : List ℕ → Bool
triple s = second (get_or s 0 0) (get_or s 1 0) && tail (get_or s 2 0)

abbrev pub quadruple : List ℕ → Bool
quadruple s = leb (get_or s 0 0) 0xF4 && (second (get_or s 0 0) (get_or s 1 0) && (tail (get_or s 2 0) && tail (get_or s 3 0)))

-- n where the row has n bytes that pass a test, else 0
abbrev pub passing : ℕ → Bool → List ℕ → ℕ
passing n b s = cond (leb n (length s) && b) n 0

unfoldable pub two : List ℕ → ℕ
two s = passing 2 (pair s) s

unfoldable pub three : List ℕ → ℕ
three s = passing 3 (triple s) s

unfoldable pub four : List ℕ → ℕ
four s = passing 4 (quadruple s) s

-- by the count of ones
unfoldable pub counted : ℕ → List ℕ → ℕ
counted n s = cond (eqb n 0) 1 (cond (eqb n 2) (two s) (cond (eqb n 3) (three s) (cond (eqb n 4) (four s) 0)))

-- 0: no character begins the row
unfoldable pub width : List ℕ → ℕ
width [] = 0
width (a ∷ s) = counted (ones a) (a ∷ s)

-- how many bytes the character has that a byte begins; 1 where it has no other, or the byte begins none
unfoldable pub long : ℕ → ℕ
long a = cond (ltb a 0xC2) 1 (cond (ltb 0xF4 a) 1 (ones a))

-- fewer bytes than the first one says, and each where it may stand
unfoldable pub begins : List ℕ → Bool
begins s =
    cond (eqb (length s) 0) false
    (cond (leb (long (get_or s 0 0)) (length s)) false
    (cond (eqb (length s) 1) true
    (cond (eqb (length s) 2) (second (get_or s 0 0) (get_or s 1 0)) (triple s))))

-- what is said of the bytes from a place on that no character begins
unfoldable pub broken_at : List ℕ → ℕ → Encoding
broken_at s p = Err (cond (begins s) (Cut p) (Bad p))
