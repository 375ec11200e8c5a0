-- Each class of lexeme is read whole, whatever stands behind it that ends the class. The theorem goes by these laws and not by a lexeme's shape.
use Rattle.std.specs.Prelude.{ℕ, ◌≡◌, refl, List, [], ◌∷◌, ◌++◌, Bool, true, false, not, cond, ◌||◌, ◌&&◌, eqb}
use Rattle.std.proofs.Common.{ap, subst, sym, ◌∙◌, eqb-true}
use Rattle.std.proofs.lemmas.Bool.{false≢true, not-true}
use Rattle.std.proofs.Math.Bool.{and-false}
use Rattle.laws.specs.Among.{among, all, each}
use Rattle.laws.specs.Bytes.{same, equal}
use Rattle.laws.specs.Tests.{and_left, and_right}
use Rattle.laws.specs.Text.{ascii}
use Rattle.reading.specs.Bytes.{digit, word_first, word_byte, blanks, quotes, marks, exes, apostrophe, dot}
use Rattle.reading.specs.Number.{Numeral, taken, number}
use Rattle.reading.specs.Lexeme.{Kind, Word, Number, Quoted, Blob, Variable, Operator, Mark, operators, listed, Quotation, Pairs, Lexeme, word as a_word, number as a_number, quoted, blob, numbered, named, operator as an_operator, mark as a_mark}
use Rattle.reading.specs.Reading.{operator_byte, Start, blank, mark, quote, digits, word, variable, operator, nothing, start, opened, lexeme, read}
use Rattle.reading.specs.Readable.{is_number}
use Rattle.reading.proofs.Taking.{stops, takes_all, closing_all, through_all}
use Rattle.reading.proofs.Numbers.{Counted, counted}

-- ways to begin, told apart by numbers
abbrev rank : Start → ℕ
rank blank = 0
rank mark = 1
rank quote = 2
rank digits = 3
rank word = 4
rank variable = 5
rank operator = 6
rank nothing = 7

abbrev ranked : ℕ → Start
ranked n = cond (eqb n 0) blank (cond (eqb n 1) mark (cond (eqb n 2) quote (cond (eqb n 3) digits (cond (eqb n 4) word (cond (eqb n 5) variable (cond (eqb n 6) operator nothing))))))

ranked_rank : (s : Start) → s ≡ ranked (rank s)
ranked_rank blank = refl
ranked_rank mark = refl
ranked_rank quote = refl
ranked_rank digits = refl
ranked_rank word = refl
ranked_rank variable = refl
ranked_rank operator = refl
ranked_rank nothing = refl

abbrev pub alike : Start → Start → Bool
alike s z = eqb (rank s) (rank z)

pub equals : (s z : Start) → alike s z ≡ true → s ≡ z
equals s z h = ranked_rank s ∙ ap ranked (eqb-true (rank s) (rank z) h) ∙ sym (ranked_rank z)

-- all bytes of a list begin the same, so each of them does
pub begins : (s : Start) (b : ℕ) (l : List ℕ) → all (λ c. alike (start c) s) l ≡ true → among b l ≡ true → start b ≡ s
begins s b l h i = equals (start b) s (each (λ c. alike (start c) s) b l h i)

-- a byte of a sort is none of a list that has none of the sort
outside : (p : ℕ → Bool) (b : ℕ) (l : List ℕ) → all (λ c. not (p c)) l ≡ true → p b ≡ true → among b l ≡ false
outside p b l h i = by (among b l) refl
  where
    by : (t : Bool) → among b l ≡ t → among b l ≡ false
    by true e = absurd (false≢true (sym (not-true (p b) (each (λ c. not (p c)) b l h e)) ∙ i))
    by false e = e

starts_word : (b : ℕ) → word_first b ≡ true → start b ≡ word
unfolding start digit word_first
starts_word b h =
    let p : (l : List ℕ) → all (λ c. not (word_first c)) l ≡ true → among b l ≡ false = λ l e. outside word_first b l e h in
    rw (p blanks refl, p marks refl, p quotes refl, p (ascii "0123456789") refl, h)

-- how a lexeme of a kind begins, by its first byte
abbrev pub start_of : Kind → Start
start_of Word = word
start_of Number = digits
start_of Quoted = quote
start_of Blob = word
start_of Variable = variable
start_of Operator = operator
start_of Mark = mark

pub record Begins (κ : Kind) (w : List ℕ) : Type 0 where
  pub byte : ℕ
  pub tail : List ℕ
  pub is : w ≡ byte ∷ tail
  pub starts : start byte ≡ start_of κ

starts_digits : (b : ℕ) → digit b ≡ true → start b ≡ digits
unfolding start digit
starts_digits b h = begins digits b (ascii "0123456789") refl h

starts_ex : (b : ℕ) → among b exes ≡ true → start b ≡ word
unfolding start digit word_first
starts_ex b h = begins word b exes refl h

starts_quote : (b : ℕ) → among b quotes ≡ true → start b ≡ quote
unfolding start
starts_quote b h = begins quote b quotes refl h

pub starts_mark : (b : ℕ) → among b marks ≡ true → start b ≡ mark
unfolding start
starts_mark b h = begins mark b marks refl h

starts_query : (b : ℕ) → among b (ascii "?") ≡ true → start b ≡ variable
unfolding start digit word_first
starts_query b h = begins variable b (ascii "?") refl h

starts_name : (b : ℕ) → among b (ascii ":@$") ≡ true → start b ≡ variable
unfolding start digit word_first
starts_name b h = begins variable b (ascii ":@$") refl h

-- each listed operator is a row of operator bytes, and begins as one
abbrev proper : List ℕ → Bool
proper [] = false
proper (b ∷ v) = alike (start b) operator && all operator_byte v

abbrev every : (List ℕ → Bool) → List (List ℕ) → Bool
every p [] = true
every p (w ∷ l) = p w && every p l

each_listed : (p : List ℕ → Bool) (w : List ℕ) (l : List (List ℕ)) → every p l ≡ true → listed w l ≡ true → p w ≡ true
each_listed p w [] h i = absurd (false≢true i)
each_listed p w (x ∷ l) h i = by (same w x) refl i (each_listed p w l (and_right (p x) (every p l) h))
  where
    by : (t : Bool) → same w x ≡ t → (t || listed w l) ≡ true → (listed w l ≡ true → p w ≡ true) → p w ≡ true
    by true e i k = rw (equal w x e) (and_left (p x) (every p l) h)
    by false e i k = k i

operators_proper : every proper operators ≡ true
unfolding operators start digit word_first operator_byte
operators_proper = refl

first_number : (w : List ℕ) → Numeral w → Begins Number w
first_number w n = let c : Counted w [] = counted w [] n refl refl in record { byte = c.byte; tail = c.tail; is = c.is; starts = starts_digits c.byte c.first }

first_operator : (w : List ℕ) → proper w ≡ true → Begins Operator w
first_operator [] h = absurd (false≢true h)
first_operator (b ∷ v) h = record { byte = b; tail = v; is = refl; starts = equals (start b) operator (and_left (alike (start b) operator) (all operator_byte v) h) }

pub first_byte : (κ : Kind) (w : List ℕ) → Lexeme κ w → Begins κ w
first_byte _ _ (a_word {b} {v} f h) = record { byte = b; tail = v; is = refl; starts = starts_word b f }
first_byte _ w (a_number n) = first_number w n
first_byte _ _ (quoted {q} {v} i d) = record { byte = q; tail = v; is = refl; starts = starts_quote q i }
first_byte _ _ (blob {x} {v} i d) = record { byte = x; tail = apostrophe ∷ v; is = refl; starts = starts_ex x i }
first_byte _ _ (numbered {b} {v} i h) = record { byte = b; tail = v; is = refl; starts = starts_query b i }
first_byte _ _ (named {b} {c} {v} i g h) = record { byte = b; tail = c ∷ v; is = refl; starts = starts_name b i }
first_byte _ w (an_operator i) = first_operator w (each_listed proper w operators operators_proper i)
first_byte _ _ (a_mark {b} i) = record { byte = b; tail = []; is = refl; starts = starts_mark b i }

-- what ends a lexeme: the end of the text, a space, a newline, a mark; but a dot ends no number, and marks and blobs end of themselves
abbrev pub closers : Kind → List ℕ
closers κ = cond (is_number κ) (ascii " \n,;()[]") (ascii " \n,;()[].")

abbrev pub loose : Kind → Bool
loose Word = false
loose Number = false
loose Quoted = false
loose Blob = true
loose Variable = false
loose Operator = false
loose Mark = true

abbrev pub ends : Kind → List ℕ → Bool
ends κ [] = true
ends κ (b ∷ r) = loose κ || among b (closers κ)

stops_at : (p : ℕ → Bool) (κ : Kind) (r : List ℕ) → loose κ ≡ false → all (λ c. not (p c)) (closers κ) ≡ true → ends κ r ≡ true → stops p r ≡ true
stops_at p κ [] l h e = refl
stops_at p κ (b ∷ r) l h e = each (λ c. not (p c)) b (closers κ) h (rw l at e)

-- words
digit_byte : (b : ℕ) → digit b ≡ true → word_byte b ≡ true
unfolding digit word_byte word_first
digit_byte b h = each word_byte b (ascii "0123456789") refl h

digit_bytes : (v : List ℕ) → all digit v ≡ true → all word_byte v ≡ true
digit_bytes [] h = refl
digit_bytes (b ∷ v) h = rw (digit_byte b (and_left (digit b) (all digit v) h), digit_bytes v (and_right (digit b) (all digit v) h))

word_ends : (r : List ℕ) → ends Word r ≡ true → stops word_byte r ≡ true
unfolding word_byte word_first digit
word_ends r e = stops_at word_byte Word r refl refl e

variable_ends : (r : List ℕ) → ends Variable r ≡ true → stops word_byte r ≡ true
unfolding word_byte word_first digit
variable_ends r e = stops_at word_byte Variable r refl refl e

operator_ends : (r : List ℕ) → ends Operator r ≡ true → stops operator_byte r ≡ true
unfolding operator_byte operators
operator_ends r e = stops_at operator_byte Operator r refl refl e

digit_ends : (r : List ℕ) → ends Number r ≡ true → stops digit r ≡ true
unfolding digit
digit_ends r e = stops_at digit Number r refl refl e

quote_ends : (q : ℕ) (r : List ℕ) → among q quotes ≡ true → ends Quoted r ≡ true → stops (λ c. eqb c q) r ≡ true
quote_ends q r i e = stops_at (λ c. eqb c q) Quoted r refl (each (λ x. all (λ c. not (eqb c x)) (closers Quoted)) q quotes refl i) e

-- no quote stands behind a word that is ended
no_word : word_byte apostrophe ≡ false
unfolding word_byte word_first digit
no_word = refl

apostrophe_other : (b : ℕ) → word_byte b ≡ true → eqb b apostrophe ≡ false
apostrophe_other b h = by (eqb b apostrophe) refl
  where
    by : (t : Bool) → eqb b apostrophe ≡ t → eqb b apostrophe ≡ false
    by true e = absurd (false≢true (sym no_word ∙ ap word_byte (sym (eqb-true b apostrophe e)) ∙ h))
    by false e = e

not_opened : (v r : List ℕ) → all word_byte v ≡ true → ends Word r ≡ true → opened (v ++ r) ≡ false
not_opened [] [] h e = refl
not_opened [] (b ∷ r) h e = not-true (eqb b apostrophe) (stops_at (λ c. eqb c apostrophe) Word (b ∷ r) refl refl e)
not_opened (b ∷ v) r h e = apostrophe_other b (and_left (word_byte b) (all word_byte v) h)

-- one law for each way to begin
reads_word : (b : ℕ) (v r : List ℕ) → word_first b ≡ true → all word_byte v ≡ true → ends Word r ≡ true → read (b ∷ (v ++ r)) ≡ lexeme Word (b ∷ v) r
unfolding read
reads_word b v r f h e =
    rw (starts_word b f, read) (rw (not_opened v r h e, and-false, takes_all word_byte v r h (word_ends r e)))

reads_blob : (b : ℕ) (v r : List ℕ) → among b exes ≡ true → Pairs v → read (b ∷ apostrophe ∷ (v ++ r)) ≡ lexeme Blob (b ∷ apostrophe ∷ v) r
unfolding read
reads_blob b v r i d = rw (starts_ex b i, read) (rw (i, through_all v r d))

starts_number : (b : ℕ) (v r : List ℕ) → digit b ≡ true → number b (v ++ r) ≡ taken (b ∷ v) r → read (b ∷ (v ++ r)) ≡ lexeme Number (b ∷ v) r
unfolding read
starts_number b v r d h = rw (starts_digits b d, read) (rw h)

reads_number : (w r : List ℕ) → Numeral w → ends Number r ≡ true → read (w ++ r) ≡ lexeme Number w r
reads_number w r n e =
    let c : Counted w r = counted w r n (digit_ends r e) (stops_at (λ c. eqb c dot) Number r refl refl e) in
    subst (λ (x : List ℕ). read (x ++ r) ≡ lexeme Number x r) (sym c.is)
    (starts_number c.byte c.tail r c.first (c.takes ∙ ap (λ (x : List ℕ). taken x r) c.is))

reads_quoted : (q : ℕ) (v r : List ℕ) → among q quotes ≡ true → Quotation q v → ends Quoted r ≡ true → read (q ∷ (v ++ r)) ≡ lexeme Quoted (q ∷ v) r
unfolding read
reads_quoted q v r i d e = rw (starts_quote q i, read) (rw (closing_all q v r d (quote_ends q r i e)))

reads_variable : (b : ℕ) (v r : List ℕ) → start b ≡ variable → all word_byte v ≡ true → ends Variable r ≡ true → read (b ∷ (v ++ r)) ≡ lexeme Variable (b ∷ v) r
unfolding read
reads_variable b v r s h e = rw (s, read) (rw (takes_all word_byte v r h (variable_ends r e)))

reads_operator : (w r : List ℕ) → proper w ≡ true → ends Operator r ≡ true → read (w ++ r) ≡ lexeme Operator w r
unfolding read
reads_operator [] r h e = absurd (false≢true h)
reads_operator (b ∷ v) r h e =
    let s : start b ≡ operator = equals (start b) operator (and_left (alike (start b) operator) (all operator_byte v) h) in
    rw (s, read) (rw (takes_all operator_byte v r (and_right (alike (start b) operator) (all operator_byte v) h) (operator_ends r e)))

reads_mark : (b : ℕ) (r : List ℕ) → among b marks ≡ true → read (b ∷ r) ≡ lexeme Mark (b ∷ []) r
unfolding read
reads_mark b r i = rw (starts_mark b i, read)

-- THE LAW: a lexeme of any class is read whole, whatever stands behind it that ends its class
pub reads : (κ : Kind) (w r : List ℕ) → Lexeme κ w → ends κ r ≡ true → read (w ++ r) ≡ lexeme κ w r
reads _ _ r (a_word {b} {v} f h) e = reads_word b v r f h e
reads _ w r (a_number n) e = reads_number w r n e
reads _ _ r (quoted {q} {v} i d) e = reads_quoted q v r i d e
reads _ _ r (blob {x} {v} i d) e = reads_blob x v r i d
reads _ _ r (numbered {b} {v} i h) e = reads_variable b v r (starts_query b i) (digit_bytes v h) e
reads _ _ r (named {b} {c} {v} i g h) e = reads_variable b (c ∷ v) r (starts_name b i) (rw (g, h)) e
reads _ w r (an_operator i) e = reads_operator w r (each_listed proper w operators operators_proper i) e
reads _ _ r (a_mark {b} i) e = reads_mark b r i
