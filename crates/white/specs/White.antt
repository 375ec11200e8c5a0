-- 01, section 4: "White_Space characters (25 code points: 9-D, 20, 85, A0, 1680, 2000-200A, 2028, 2029, 202F, 205F, 3000, hex)".
use Rattle.std.specs.Prelude.{ℕ, ◌+◌, ◌/◌, ◌%◌, List, [], ◌∷◌, Bool, true, false, cond, ◌&&◌, length, eqb, ltb}

abbrev pub white_space : List ℕ
white_space =
    0x9 ∷ 0xA ∷ 0xB ∷ 0xC ∷ 0xD ∷ 0x20 ∷ 0x85 ∷ 0xA0 ∷ 0x1680
    ∷ 0x2000 ∷ 0x2001 ∷ 0x2002 ∷ 0x2003 ∷ 0x2004 ∷ 0x2005 ∷ 0x2006 ∷ 0x2007 ∷ 0x2008 ∷ 0x2009 ∷ 0x200A
    ∷ 0x2028 ∷ 0x2029 ∷ 0x202F ∷ 0x205F ∷ 0x3000 ∷ []

-- the UTF-8 bytes of a code point below 10000 (hex): the first three lines of the table of RFC 3629, section 3
abbrev pub encode : ℕ → List ℕ
encode c =
    cond (ltb c 0x80) (c ∷ [])
    (cond (ltb c 0x800) ((0xC0 + c / 0x40) ∷ (0x80 + c % 0x40) ∷ [])
    ((0xE0 + c / 0x1000) ∷ (0x80 + c / 0x40 % 0x40) ∷ (0x80 + c % 0x40) ∷ []))

-- whether a text begins with these bytes
abbrev pub begins : List ℕ → List ℕ → Bool
begins s [] = true
begins [] (x ∷ xs) = false
begins (b ∷ s) (x ∷ xs) = eqb b x && begins s xs

-- how many bytes the first of these characters takes that it begins with
unfoldable pub length_among : List ℕ → List ℕ → ℕ
length_among s [] = 0
length_among s (c ∷ cs) = cond (begins s (encode c)) (length (encode c)) (length_among s cs)

-- how many bytes the White_Space character takes that a text begins with; 0 where it begins with none
unfoldable pub white_length : List ℕ → ℕ
white_length s = length_among s white_space
