-- UTF-8 as RFC 3629 defines it in section 4: a character's bytes, a text, and what the check of a text answers.
-- A byte is a number, a text a list of them. Assumes nothing.
use Rattle.std.specs.Prelude.{ℕ, ◌≤◌, ◌<◌, List, [], ◌∷◌, ◌++◌, Bool, not, ◌&&◌, ◌||◌, leb, ltb, eqb, length, take, drop, get_or, Result, Ok, Err}
use Rattle.utf8.specs.declared.Broken.{Broken}
use Rattle.utf8.specs.declared.Broken.TheVariants.{Bad, Cut}

-- %xA-B: a byte from a to b
pub record In (a b x : ℕ) : Type 0 where
  pub low : a ≤ x
  pub high : x ≤ b

-- UTF8-tail = %x80-BF
abbrev pub Tail : ℕ → Type 0
Tail x = In 0x80 0xBF x

-- UTF8-char = UTF8-1 / UTF8-2 / UTF8-3 / UTF8-4
pub data Char : List ℕ → Type 0 where
  -- UTF8-1 = %x00-7F
  one : {a : ℕ} → In 0x00 0x7F a → Char (a ∷ [])
  -- UTF8-2 = %xC2-DF UTF8-tail
  two : {a b : ℕ} → In 0xC2 0xDF a → Tail b → Char (a ∷ b ∷ [])
  -- UTF8-3 = %xE0 %xA0-BF UTF8-tail
  three_E0 : {a b c : ℕ} → In 0xE0 0xE0 a → In 0xA0 0xBF b → Tail c → Char (a ∷ b ∷ c ∷ [])
  --        / %xE1-EC 2( UTF8-tail )
  three_E1 : {a b c : ℕ} → In 0xE1 0xEC a → Tail b → Tail c → Char (a ∷ b ∷ c ∷ [])
  --        / %xED %x80-9F UTF8-tail
  three_ED : {a b c : ℕ} → In 0xED 0xED a → In 0x80 0x9F b → Tail c → Char (a ∷ b ∷ c ∷ [])
  --        / %xEE-EF 2( UTF8-tail )
  three_EE : {a b c : ℕ} → In 0xEE 0xEF a → Tail b → Tail c → Char (a ∷ b ∷ c ∷ [])
  -- UTF8-4 = %xF0 %x90-BF 2( UTF8-tail )
  four_F0 : {a b c d : ℕ} → In 0xF0 0xF0 a → In 0x90 0xBF b → Tail c → Tail d → Char (a ∷ b ∷ c ∷ d ∷ [])
  --        / %xF1-F3 3( UTF8-tail )
  four_F1 : {a b c d : ℕ} → In 0xF1 0xF3 a → Tail b → Tail c → Tail d → Char (a ∷ b ∷ c ∷ d ∷ [])
  --        / %xF4 %x80-8F 2( UTF8-tail )
  four_F4 : {a b c d : ℕ} → In 0xF4 0xF4 a → In 0x80 0x8F b → Tail c → Tail d → Char (a ∷ b ∷ c ∷ d ∷ [])

-- UTF8-octets = *( UTF8-char ): a text is a row of characters
pub data Text : List ℕ → Type 0 where
  none : Text []
  more : {c s : List ℕ} → Char c → Text s → Text (c ++ s)

-- p is the end of the longest text that begins s
pub record Longest (s : List ℕ) (p : ℕ) : Type 0 where
  pub within : p ≤ length s
  pub text : Text (take p s)
  pub last : (q : ℕ) → p < q → q ≤ length s → Text (take q s) → ⊥

-- 02, ii: the bytes are a proper beginning of some UTF8-char: not empty, and at least one byte short
pub record Begins (s : List ℕ) : Type 0 where
  pub some : 0 < length s
  pub missing : List ℕ
  pub short : 0 < length missing
  pub char : Char (s ++ missing)

-- what the check answers: the bytes are a text, or the longest text that begins them ends at p, before they do;
-- then they are cut off exactly if those from p to the end are a proper beginning of a character
abbrev pub Ends : List ℕ → ℕ → Type 0
Ends s p = (p < length s) × Longest s p

-- (the answer is nothing more where they are a text, and else how they are broken)
abbrev pub Encoding : Type 0
Encoding = Result (Unit {0}) Broken

abbrev pub Encoded : List ℕ → Encoding → Type 0
Encoded s (Ok _) = Text s
Encoded s (Err (Bad p)) = Ends s p × (Begins (drop p s) → ⊥)
Encoded s (Err (Cut p)) = Ends s p × Begins (drop p s)

-- the answer's number (01's, and 02's for cut off), and the place that goes with it
abbrev pub number : Encoding → ℕ
number (Ok _) = 0
number (Err (Bad p)) = 2
number (Err (Cut p)) = 12

abbrev pub place : Encoding → ℕ
place (Ok _) = 0
place (Err (Bad p)) = p
place (Err (Cut p)) = p

-- how bytes are broken that are no text: asked of those alone
abbrev pub fault : Encoding → Broken
fault (Ok _) = Bad 0
fault (Err b) = b

-- the byte is a UTF8-tail
abbrev pub tail : ℕ → Bool
tail x = leb 0x80 x && leb x 0xBF

-- a place of a text between two characters: the end, or a place whose byte is no UTF8-tail
unfoldable pub boundary : List ℕ → ℕ → Bool
boundary s p = eqb p (length s) || (ltb p (length s) && not (tail (get_or s p 0)))
