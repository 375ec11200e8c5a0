-- A readable stream told by computing: a test of a lexeme, of a token that is told by its carrier, and of a stream, each proved to say so.
use Rattle.std.specs.Prelude.{ℕ, ◌≡◌, refl, List, [], ◌∷◌, ◌++◌, map, Bool, true, false, not, cond, ◌||◌, ◌&&◌, eqb}
use Rattle.std.proofs.Common.{subst, sym, eqb-true}
use Rattle.std.proofs.lemmas.Bool.{false≢true, not-true}
use Rattle.laws.specs.Among.{among, all, is_nil}
use Rattle.laws.specs.Tests.{and_left, and_right}
use Rattle.laws.specs.Text.{ascii}
use Rattle.spelling.specs.Token.{TK_BLOB, TK_SEMI}
use Rattle.spelling.specs.Rows.{rows}
use Rattle.spelling.specs.Spelling.{row, spelling}
use Rattle.stream.specs.Stream.{Token, none, some}
use Rattle.reading.specs.Bytes.{digit, hex_digit, word_first, word_byte, quotes, marks, exes, apostrophe, dot, newline}
use Rattle.reading.specs.Number.{Digits, digits, Numeral, whole, fraction}
use Rattle.reading.specs.Lexeme.{Kind, Word, Number, Quoted, Blob, Variable, Operator, Mark, operators, listed, Quotation, close, doubled, other, Pairs, close as shut, pair, Lexeme, word, number, quoted, blob, numbered, named, operator, mark}
use Rattle.reading.specs.Reading.{Lexed}
use Rattle.reading.specs.Readable.{is_mark, Fixed, word as Fixed-word, operator as fixed-operator, mark as fixed-mark, Carries, fixed, word_line, semi_line, valued, blob as valued-blob, no_blob, no_dot_beside_number, Carried, done, next, Readable}

-- two tests, of which one or both hold
pub either : (a b : Bool) {P : Type 0} → (a || b) ≡ true → (a ≡ true → P) → (b ≡ true → P) → P
either true b h f g = f refl
either false b h f g = g h

-- numbers: digits, and then nothing, or a dot and digits
abbrev is_digits : List ℕ → Bool
is_digits [] = false
is_digits (b ∷ v) = digit b && all digit v

abbrev is_end : List ℕ → Bool
is_end [] = true
is_end (b ∷ v) = (digit b && is_end v) || (eqb b dot && is_digits v)

data End : List ℕ → Type 0 where
  plain : {v : List ℕ} → all digit v ≡ true → End v
  dotted : (v : List ℕ) {w : List ℕ} → all digit v ≡ true → Digits w → End (v ++ (dot ∷ w))

are_digits : (w : List ℕ) → is_digits w ≡ true → Digits w
are_digits [] h = absurd (false≢true h)
are_digits (b ∷ v) h = digits (and_left (digit b) (all digit v) h) (and_right (digit b) (all digit v) h)

further : (b : ℕ) (v : List ℕ) → digit b ≡ true → End v → End (b ∷ v)
further b v d (plain h) = plain {v = b ∷ v} (rw (d, h))
further b _ d (dotted u h e) = dotted (b ∷ u) (rw (d, h)) e

point : (b : ℕ) (v : List ℕ) → eqb b dot ≡ true → is_digits v ≡ true → End (b ∷ v)
point b v e h = subst (λ (c : ℕ). End (c ∷ v)) (sym (eqb-true b dot e)) (dotted [] refl (are_digits v h))

an_end : (v : List ℕ) → is_end v ≡ true → End v
an_end [] h = plain refl
an_end (b ∷ v) h =
    either (digit b && is_end v) (eqb b dot && is_digits v) h
    (λ g. further b v (and_left (digit b) (is_end v) g) (an_end v (and_right (digit b) (is_end v) g)))
    (λ g. point b v (and_left (eqb b dot) (is_digits v) g) (and_right (eqb b dot) (is_digits v) g))

a_numeral : (b : ℕ) (v : List ℕ) → digit b ≡ true → End v → Numeral (b ∷ v)
a_numeral b v d (plain h) = whole (digits d h)
a_numeral b _ d (dotted v h e) = fraction (digits {b = b} {v = v} d h) e

-- quotations and pairs
abbrev is_quotation : ℕ → List ℕ → Bool
is_quotation q [] = false
is_quotation q (b ∷ []) = eqb b q
is_quotation q (b ∷ c ∷ v) = cond (eqb b q) (eqb c q && is_quotation q v) (is_quotation q (c ∷ v))

a_quotation : (q : ℕ) (v : List ℕ) → is_quotation q v ≡ true → Quotation q v
a_quotation q [] h = absurd (false≢true h)
a_quotation q (b ∷ []) h = subst (λ (x : ℕ). Quotation q (x ∷ [])) (sym (eqb-true b q h)) close
a_quotation q (b ∷ c ∷ v) h = by (eqb b q) refl h (a_quotation q v) (a_quotation q (c ∷ v))
  where
    by : (t : Bool) → eqb b q ≡ t → cond t (eqb c q && is_quotation q v) (is_quotation q (c ∷ v)) ≡ true
        → (is_quotation q v ≡ true → Quotation q v) → (is_quotation q (c ∷ v) ≡ true → Quotation q (c ∷ v)) → Quotation q (b ∷ c ∷ v)
    by true e h f g =
        rw (eqb-true b q e, eqb-true c q (and_left (eqb c q) (is_quotation q v) h)) (doubled (f (and_right (eqb c q) (is_quotation q v) h)))
    by false e h f g = other e (g h)

abbrev is_pairs : List ℕ → Bool
is_pairs [] = false
is_pairs (b ∷ []) = eqb b apostrophe
is_pairs (a ∷ b ∷ v) = hex_digit a && (hex_digit b && is_pairs v)

are_pairs : (v : List ℕ) → is_pairs v ≡ true → Pairs v
are_pairs [] h = absurd (false≢true h)
are_pairs (b ∷ []) h = subst (λ (x : ℕ). Pairs (x ∷ [])) (sym (eqb-true b apostrophe h)) shut
are_pairs (a ∷ b ∷ v) h =
    let g : (hex_digit b && is_pairs v) ≡ true = and_right (hex_digit a) (hex_digit b && is_pairs v) h in
    pair (and_left (hex_digit a) (hex_digit b && is_pairs v) h) (and_left (hex_digit b) (is_pairs v) g) (are_pairs v (and_right (hex_digit b) (is_pairs v) g))

-- lexemes
abbrev is_blob : ℕ → List ℕ → Bool
is_blob x [] = false
is_blob x (b ∷ v) = among x exes && (eqb b apostrophe && is_pairs v)

abbrev is_named : ℕ → List ℕ → Bool
is_named b [] = false
is_named b (c ∷ v) = among b (ascii ":@$") && all word_byte (c ∷ v)

abbrev pub is_lexeme : Kind → List ℕ → Bool
is_lexeme κ [] = false
is_lexeme Word (b ∷ v) = word_first b && all word_byte v
is_lexeme Number (b ∷ v) = digit b && is_end v
is_lexeme Quoted (q ∷ v) = among q quotes && is_quotation q v
is_lexeme Blob (x ∷ v) = is_blob x v
is_lexeme Variable (b ∷ v) = (among b (ascii "?") && all digit v) || is_named b v
is_lexeme Operator (b ∷ v) = listed (b ∷ v) operators
is_lexeme Mark (b ∷ v) = among b marks && is_nil v

a_blob : (x : ℕ) (v : List ℕ) → is_blob x v ≡ true → Lexeme Blob (x ∷ v)
a_blob x [] h = absurd (false≢true h)
a_blob x (b ∷ v) h =
    let g : (eqb b apostrophe && is_pairs v) ≡ true = and_right (among x exes) (eqb b apostrophe && is_pairs v) h in
    subst (λ (c : ℕ). Lexeme Blob (x ∷ c ∷ v)) (sym (eqb-true b apostrophe (and_left (eqb b apostrophe) (is_pairs v) g)))
    (blob (and_left (among x exes) (eqb b apostrophe && is_pairs v) h) (are_pairs v (and_right (eqb b apostrophe) (is_pairs v) g)))

a_named : (b : ℕ) (v : List ℕ) → is_named b v ≡ true → Lexeme Variable (b ∷ v)
a_named b [] h = absurd (false≢true h)
a_named b (c ∷ v) h =
    let g : (word_byte c && all word_byte v) ≡ true = and_right (among b (ascii ":@$")) (all word_byte (c ∷ v)) h in
    named (and_left (among b (ascii ":@$")) (all word_byte (c ∷ v)) h) (and_left (word_byte c) (all word_byte v) g) (and_right (word_byte c) (all word_byte v) g)

a_mark : (b : ℕ) (v : List ℕ) → (among b marks && is_nil v) ≡ true → Lexeme Mark (b ∷ v)
a_mark b [] h = mark (and_left (among b marks) true h)
a_mark b (c ∷ v) h = absurd (false≢true (and_right (among b marks) false h))

pub a_lexeme : (κ : Kind) (w : List ℕ) → is_lexeme κ w ≡ true → Lexeme κ w
a_lexeme κ [] h = absurd (false≢true h)
a_lexeme Word (b ∷ v) h = word (and_left (word_first b) (all word_byte v) h) (and_right (word_first b) (all word_byte v) h)
a_lexeme Number (b ∷ v) h = number (a_numeral b v (and_left (digit b) (is_end v) h) (an_end v (and_right (digit b) (is_end v) h)))
a_lexeme Quoted (q ∷ v) h = quoted (and_left (among q quotes) (is_quotation q v) h) (a_quotation q v (and_right (among q quotes) (is_quotation q v) h))
a_lexeme Blob (x ∷ v) h = a_blob x v h
a_lexeme Variable (b ∷ v) h =
    either (among b (ascii "?") && all digit v) (is_named b v) h
    (λ g. numbered (and_left (among b (ascii "?")) (all digit v) g) (and_right (among b (ascii "?")) (all digit v) g)) (a_named b v)
a_lexeme Operator (b ∷ v) h = operator h
a_lexeme Mark (b ∷ v) h = a_mark b v h

-- carriers
abbrev is_fixed : Kind → Bool
is_fixed Word = true
is_fixed Number = false
is_fixed Quoted = false
is_fixed Blob = false
is_fixed Variable = false
is_fixed Operator = true
is_fixed Mark = true

a_fixed : (κ : Kind) → is_fixed κ ≡ true → Fixed κ
a_fixed Word h = Fixed-word
a_fixed Number h = absurd (false≢true h)
a_fixed Quoted h = absurd (false≢true h)
a_fixed Blob h = absurd (false≢true h)
a_fixed Variable h = absurd (false≢true h)
a_fixed Operator h = fixed-operator
a_fixed Mark h = fixed-mark

-- a token told by the way in which it carries its lexeme
pub data Carrier : Type 0 where
  fixed_as : Kind → ℕ → Carrier
  word_lined : ℕ → Carrier
  semi_lined : Carrier
  value_as : Kind → ℕ → List ℕ → Carrier
  blob_of : List ℕ → Carrier
  blob_of_none : Carrier

abbrev pub token_of : Carrier → Token
token_of (fixed_as κ k) = record { kind = k; value = none }
token_of (word_lined k) = record { kind = k; value = some (newline ∷ []) }
token_of semi_lined = record { kind = TK_SEMI; value = some (newline ∷ []) }
token_of (value_as κ k v) = record { kind = k; value = some v }
token_of (blob_of v) = record { kind = TK_BLOB; value = some v }
token_of blob_of_none = record { kind = TK_BLOB; value = none }

abbrev pub lexed_of : Carrier → Lexed
lexed_of (fixed_as κ k) = (κ, spelling k)
lexed_of (word_lined k) = (Word, spelling k)
lexed_of semi_lined = (Mark, ascii ";")
lexed_of (value_as κ k v) = (κ, v)
lexed_of (blob_of v) = (Blob, v)
lexed_of blob_of_none = (Blob, ascii "X''")

abbrev fine : Carrier → Bool
fine (fixed_as κ k) = is_fixed κ && is_lexeme κ (spelling k)
fine (word_lined k) = is_lexeme Word (spelling k)
fine semi_lined = true
fine (value_as κ k v) = (not (eqb k TK_BLOB) && is_nil (spelling k)) && (not (is_mark κ) && is_lexeme κ v)
fine (blob_of v) = is_lexeme Blob v
fine blob_of_none = true

no_bytes : (v : List ℕ) → is_nil v ≡ true → v ≡ []
no_bytes [] h = refl
no_bytes (b ∷ v) h = absurd (false≢true h)

semi_spelled : spelling TK_SEMI ≡ ascii ";"
unfolding spelling row rows
semi_spelled = refl

carries : (c : Carrier) → fine c ≡ true → Carries (token_of c).kind (token_of c).value (lexed_of c).0 (lexed_of c).1
carries (fixed_as κ k) h = fixed refl (a_fixed κ (and_left (is_fixed κ) (is_lexeme κ (spelling k)) h)) (a_lexeme κ (spelling k) (and_right (is_fixed κ) (is_lexeme κ (spelling k)) h))
carries (word_lined k) h = word_line refl (a_lexeme Word (spelling k) h)
carries semi_lined h = semi_line semi_spelled
carries (value_as κ k v) h =
    let f : (not (eqb k TK_BLOB) && is_nil (spelling k)) ≡ true = and_left (not (eqb k TK_BLOB) && is_nil (spelling k)) (not (is_mark κ) && is_lexeme κ v) h in
    let g : (not (is_mark κ) && is_lexeme κ v) ≡ true = and_right (not (eqb k TK_BLOB) && is_nil (spelling k)) (not (is_mark κ) && is_lexeme κ v) h in
    valued (not-true (eqb k TK_BLOB) (and_left (not (eqb k TK_BLOB)) (is_nil (spelling k)) f)) (no_bytes (spelling k) (and_right (not (eqb k TK_BLOB)) (is_nil (spelling k)) f))
    (not-true (is_mark κ) (and_left (not (is_mark κ)) (is_lexeme κ v) g)) (a_lexeme κ v (and_right (not (is_mark κ)) (is_lexeme κ v) g))
carries (blob_of v) h = valued-blob refl (a_lexeme Blob v h)
carries blob_of_none h = no_blob refl

-- a stream told so is readable, if the test holds
abbrev all_fine : List Carrier → Bool
all_fine [] = true
all_fine (c ∷ cs) = fine c && all_fine cs

all_carried : (cs : List Carrier) → all_fine cs ≡ true → Carried (map token_of cs) (map lexed_of cs)
all_carried [] h = done
all_carried (c ∷ cs) h = next (carries c (and_left (fine c) (all_fine cs) h)) (all_carried cs (and_right (fine c) (all_fine cs) h))

abbrev pub readable : List Carrier → Bool
readable cs = all_fine cs && no_dot_beside_number (map lexed_of cs)

pub is_readable : (cs : List Carrier) → readable cs ≡ true → Readable (map token_of cs) (map lexed_of cs)
is_readable cs h =
    record { carried = all_carried cs (and_left (all_fine cs) (no_dot_beside_number (map lexed_of cs)) h); apart = and_right (all_fine cs) (no_dot_beside_number (map lexed_of cs)) h }
