-- The sorts of bytes, each by a test that is computed at all 256 bytes; and what a byte of a sort begins.
use Rattle.std.specs.Prelude.{ℕ, zero, suc, ◌<◌, ◌≡◌, refl, List, [], ◌∷◌, Bool, true, false, not, ◌||◌, ◌&&◌, leb, eqb}
use Rattle.std.proofs.Common.{arith, not-suc-le-zero, sym, ap, ◌∙◌, eqb-true}
use Rattle.std.proofs.Math.Bool
use Rattle.std.proofs.Math.Bool.{or-false, or_assoc}
use Rattle.std.specs.Char.{is_ascii_digit, is_ascii_alphabetic}
use Rattle.laws.specs.Among.{among}
use Rattle.laws.specs.Below.{below, at}
use Rattle.laws.specs.First.{first}
use Rattle.laws.specs.Tests.{beq, or_left, or_right}
use Rattle.laws.specs.Text.{ascii}
use Rattle.reading.specs.Bytes.{digit, word_first, word_byte, blanks, variables, quotes, marks}
use Rattle.reading.specs.Lexeme.{operators}
use Rattle.reading.specs.Reading.{operator_byte, Start, blank, mark, quote, digits, word, variable, operator, nothing, start}
use Rattle.reader.specs.Places.{letter}

-- two tests of a byte that come to the same at each of the 256
alike : (f g : ℕ → Bool) → below (λ b. Bool.beq (f b) (g b)) 256 ≡ true → (b : ℕ) → b < 256 → f b ≡ g b
alike f g t b h = beq (f b) (g b) (at (λ c. Bool.beq (f c) (g c)) 256 t b h)

pub a_digit : (b : ℕ) → b < 256 → is_ascii_digit b ≡ digit b
unfolding digit
a_digit = alike is_ascii_digit digit refl

pub a_letter : (b : ℕ) → b < 256 → is_ascii_alphabetic b ≡ letter b
unfolding letter
a_letter = alike is_ascii_alphabetic letter refl

pub an_operator : (b : ℕ) → b < 256
    → eqb b 0x2B || (eqb b 0x2D || (eqb b 0x2A || (eqb b 0x2F || (eqb b 0x25 || (eqb b 0x3D || (eqb b 0x3C || (eqb b 0x3E || (eqb b 0x21 || (eqb b 0x26 || (eqb b 0x7C || eqb b 0x7E))))))))))
    ≡ operator_byte b
unfolding operator_byte operators
an_operator =
    alike
    (λ b. eqb b 0x2B || (eqb b 0x2D || (eqb b 0x2A || (eqb b 0x2F || (eqb b 0x25 || (eqb b 0x3D || (eqb b 0x3C || (eqb b 0x3E || (eqb b 0x21 || (eqb b 0x26 || (eqb b 0x7C || eqb b 0x7E)))))))))))
    operator_byte refl

-- a word's bytes are letters and others
pub first_letter : (b : ℕ) → letter b ≡ true → word_first b ≡ true
unfolding letter word_first
first_letter b h = by (leb 0x41 b && leb b 0x5A) (leb 0x61 b && leb b 0x7A) (among b (ascii "_") || leb 0x80 b) h
  where
    by : (c s o : Bool) → (c || s) ≡ true → (c || (s || o)) ≡ true
    by true s o h = refl
    by false s o h = rw h

pub first_other : (b : ℕ) → letter b ≡ false → word_first b ≡ (eqb b 0x5F || leb 0x80 b)
unfolding letter word_first
first_other b h =
    rw (or_left (leb 0x41 b && leb b 0x5A) (leb 0x61 b && leb b 0x7A) h, or_right (leb 0x41 b && leb b 0x5A) (leb 0x61 b && leb b 0x7A) h, or-false (eqb b 0x5F))

pub byte_letter : (b : ℕ) → letter b ≡ true → word_byte b ≡ true
unfolding word_byte
byte_letter b h = rw (first_letter b h)

pub byte_other : (b : ℕ) → letter b ≡ false → word_byte b ≡ (eqb b 0x5F || (leb 0x80 b || (digit b || eqb b 0x24)))
unfolding word_byte
byte_other b h = rw (first_other b h, or-false (eqb b 0x24)) (or_assoc (eqb b 0x5F) (leb 0x80 b) (digit b || eqb b 0x24))

-- what a byte begins, told by a number
unfoldable code : Start → ℕ
code blank = 0
code mark = 1
code quote = 2
code digits = 3
code word = 4
code variable = 5
code operator = 6
code nothing = 7

told : (s u : Start) → eqb (code s) (code u) ≡ true → s ≡ u
unfolding code
told s u e = ap_decode s ∙ ap decode (eqb-true (code s) (code u) e) ∙ sym (ap_decode u)
  where
    decode : ℕ → Start
    decode zero = blank
    decode (suc zero) = mark
    decode (suc (suc zero)) = quote
    decode (suc (suc (suc zero))) = digits
    decode (suc (suc (suc (suc zero)))) = word
    decode (suc (suc (suc (suc (suc zero))))) = variable
    decode (suc (suc (suc (suc (suc (suc zero)))))) = operator
    decode (suc (suc (suc (suc (suc (suc (suc n))))))) = nothing

    ap_decode : (x : Start) → x ≡ decode (code x)
    ap_decode blank = refl
    ap_decode mark = refl
    ap_decode quote = refl
    ap_decode digits = refl
    ap_decode word = refl
    ap_decode variable = refl
    ap_decode operator = refl
    ap_decode nothing = refl

-- a byte of a sort begins what all bytes of it begin
begins : (p : ℕ → Bool) (s : Start) → below (λ b. not (p b) || eqb (code (start b)) (code s)) 256 ≡ true → (b : ℕ) → b < 256 → p b ≡ true → start b ≡ s
begins p s t b h e = told (start b) s (rw e at (at (λ c. not (p c) || eqb (code (start c)) (code s)) 256 t b h))

pub begins_blank : (b : ℕ) → among b blanks ≡ true → start b ≡ blank
unfolding start
begins_blank b h = rw h

pub blank_begins : (b : ℕ) → start b ≡ blank → among b blanks ≡ true
unfolding start code
blank_begins b h =
    by (among b blanks) (among b marks) (among b quotes) (digit b) (word_first b) (among b variables) (operator_byte b) h
  where
    -- all but the first begin something else, by another number
    other : (m q d w v o : Bool) → code (first ((m, mark) ∷ (q, quote) ∷ (d, digits) ∷ (w, word) ∷ (v, variable) ∷ (o, operator) ∷ []) nothing) ≡ 0 → ⊥
    other true q d w v o e = not-suc-le-zero {n = 0} (omega arith)
    other false true d w v o e = not-suc-le-zero {n = 0} (omega arith)
    other false false true w v o e = not-suc-le-zero {n = 0} (omega arith)
    other false false false true v o e = not-suc-le-zero {n = 0} (omega arith)
    other false false false false true o e = not-suc-le-zero {n = 0} (omega arith)
    other false false false false false true e = not-suc-le-zero {n = 0} (omega arith)
    other false false false false false false e = not-suc-le-zero {n = 0} (omega arith)

    by : (c m q d w v o : Bool) → first ((c, blank) ∷ (m, mark) ∷ (q, quote) ∷ (d, digits) ∷ (w, word) ∷ (v, variable) ∷ (o, operator) ∷ []) nothing ≡ blank → c ≡ true
    by true m q d w v o e = refl
    by false m q d w v o e = absurd (other m q d w v o (ap code e))

pub begins_word : (b : ℕ) → b < 256 → word_first b ≡ true → start b ≡ word
unfolding start code digit word_first operator_byte operators
begins_word = begins word_first word refl

pub begins_mark : (b : ℕ) → b < 256 → among b marks ≡ true → start b ≡ mark
unfolding start code digit word_first operator_byte operators
begins_mark = begins (λ b. among b marks) mark refl

pub begins_digits : (b : ℕ) → b < 256 → digit b ≡ true → start b ≡ digits
unfolding start code digit word_first operator_byte operators
begins_digits = begins digit digits refl

pub begins_quote : (b : ℕ) → b < 256 → among b quotes ≡ true → start b ≡ quote
unfolding start code digit word_first operator_byte operators
begins_quote = begins (λ b. among b quotes) quote refl

pub begins_operator : (b : ℕ) → b < 256 → operator_byte b ≡ true → start b ≡ operator
unfolding start code digit word_first operator_byte operators
begins_operator = begins operator_byte operator refl

pub begins_variable : (b : ℕ) → b < 256 → among b variables ≡ true → start b ≡ variable
unfolding start code digit word_first operator_byte operators
begins_variable = begins (λ b. among b variables) variable refl

-- and a byte of none begins nothing
pub begins_nothing : (b : ℕ) → among b blanks ≡ false → word_first b ≡ false → among b marks ≡ false → digit b ≡ false → among b quotes ≡ false → operator_byte b ≡ false
    → among b variables ≡ false → start b ≡ nothing
unfolding start
begins_nothing b n w m d q o v = rw (n, m, q, d, w, v, o)
