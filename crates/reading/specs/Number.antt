-- 01, section 5: what is taken of a text; and the number, in the list of lexemes and in the reading.
use Rattle.std.specs.Prelude.{ℕ, ◌≡◌, List, [], ◌∷◌, ◌++◌, Bool, true, cond, ◌&&◌, eqb}
use Rattle.laws.specs.Among.{all}
use Rattle.reading.specs.Bytes.{digit, dot}

-- one digit or more
pub data Digits : List ℕ → Type 0 where
  digits : {b : ℕ} {v : List ℕ} → digit b ≡ true → all digit v ≡ true → Digits (b ∷ v)

-- the list: "digits, or digits dot digits"
pub data Numeral : List ℕ → Type 0 where
  whole : {w : List ℕ} → Digits w → Numeral w
  fraction : {v w : List ℕ} → Digits v → Digits w → Numeral (v ++ (dot ∷ w))

-- what is taken from the beginning of a text and what stands behind it, or a quote that is not closed
pub data Taken : Type 0 where
  taken : List ℕ → List ℕ → Taken
  unclosed : Taken

-- what is taken behind bytes that are taken already
abbrev pub after : List ℕ → Taken → Taken
after v (taken w r) = taken (v ++ w) r
after v unclosed = unclosed

-- all bytes of a sort, as far as they go
unfoldable pub takes : (ℕ → Bool) → List ℕ → Taken
takes p [] = taken [] []
takes p (b ∷ t) = cond (p b) (after (b ∷ []) (takes p t)) (taken [] (b ∷ t))

-- the reading: "A digit takes digits, and a dot and digits if a digit follows the dot."
unfoldable pub pointed : Taken → Taken
pointed unclosed = unclosed
pointed (taken v []) = taken v []
pointed (taken v (b ∷ [])) = taken v (b ∷ [])
pointed (taken v (b ∷ c ∷ r)) = cond (eqb b dot && digit c) (after v (after (b ∷ []) (takes digit (c ∷ r)))) (taken v (b ∷ c ∷ r))

unfoldable pub number : ℕ → List ℕ → Taken
number b t = pointed (after (b ∷ []) (takes digit t))
