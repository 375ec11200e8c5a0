-- What is taken of a text: bytes of a sort to the first that is not of it, a quotation, a blob.
use Rattle.std.specs.Prelude.{ℕ, ◌≡◌, refl, List, [], ◌∷◌, ◌++◌, Bool, true, false, not, eqb}
use Rattle.std.proofs.Common.{ap, ◌∙◌, eq-eqb}
use Rattle.std.proofs.lemmas.Bool.{not-true}
use Rattle.laws.specs.Among.{all, each}
use Rattle.laws.specs.Tests.{and_left, and_right}
use Rattle.laws.specs.Text.{ascii}
use Rattle.reading.specs.Bytes.{hex_digit, apostrophe}
use Rattle.reading.specs.Number.{taken, after, takes}
use Rattle.reading.specs.Lexeme.{Quotation, close, doubled, other, Pairs, close as shut, pair}
use Rattle.reading.specs.Reading.{through, closing}

-- the next byte, if there is one, is not of the sort
abbrev pub stops : (ℕ → Bool) → List ℕ → Bool
stops p [] = true
stops p (b ∷ r) = not (p b)

takes_none : (p : ℕ → Bool) (r : List ℕ) → stops p r ≡ true → takes p r ≡ taken [] r
unfolding takes
takes_none p [] h = refl
takes_none p (b ∷ r) h = rw (not-true (p b) h)

pub takes_all : (p : ℕ → Bool) (v r : List ℕ) → all p v ≡ true → stops p r ≡ true → takes p (v ++ r) ≡ taken v r
unfolding takes
takes_all p [] r h s = takes_none p r s
takes_all p (b ∷ v) r h s = rw (and_left (p b) (all p v) h, takes_all p v r (and_right (p b) (all p v) h) s)

-- a quotation ends at its closing quote, if no like quote follows it
pub closing_other : (q b : ℕ) (t : List ℕ) → eqb b q ≡ false → closing q (b ∷ t) ≡ after (b ∷ []) (closing q t)
unfolding closing
closing_other q b [] h = rw h
closing_other q b (c ∷ t) h = rw h

pub closing_last : (q : ℕ) (r : List ℕ) → stops (λ c. eqb c q) r ≡ true → closing q (q ∷ r) ≡ taken (q ∷ []) r
unfolding closing
closing_last q [] h = rw (eq-eqb q q refl)
closing_last q (c ∷ r) h = rw (eq-eqb q q refl, not-true (eqb c q) h)

pub closing_doubled : (q : ℕ) (t : List ℕ) → closing q (q ∷ q ∷ t) ≡ after (q ∷ q ∷ []) (closing q t)
unfolding closing
closing_doubled q t = rw (eq-eqb q q refl)

pub closing_all : (q : ℕ) (v r : List ℕ) → Quotation q v → stops (λ c. eqb c q) r ≡ true → closing q (v ++ r) ≡ taken v r
closing_all q _ r close h = closing_last q r h
closing_all q _ r (doubled {v} d) h = closing_doubled q (v ++ r) ∙ ap (after (q ∷ q ∷ [])) (closing_all q v r d h)
closing_all q _ r (other {b} {v} n d) h = closing_other q b (v ++ r) n ∙ ap (after (b ∷ [])) (closing_all q v r d h)

-- a blob's hex digits are no quotes
hex_other : (b : ℕ) → hex_digit b ≡ true → eqb b apostrophe ≡ false
unfolding hex_digit
hex_other b h = not-true (eqb b apostrophe) (each (λ c. not (eqb c apostrophe)) b (ascii "0123456789ABCDEFabcdef") refl h)

through_other : (b : ℕ) (t : List ℕ) → hex_digit b ≡ true → through apostrophe (b ∷ t) ≡ after (b ∷ []) (through apostrophe t)
unfolding through
through_other b t h = rw (hex_other b h)

through_last : (r : List ℕ) → through apostrophe (apostrophe ∷ r) ≡ taken (apostrophe ∷ []) r
unfolding through
through_last r = refl

pub through_all : (v r : List ℕ) → Pairs v → through apostrophe (v ++ r) ≡ taken v r
through_all _ r shut = through_last r
through_all _ r (pair {a} {b} {v} h g d) =
    through_other a (b ∷ (v ++ r)) h ∙ ap (after (a ∷ [])) (through_other b (v ++ r) g ∙ ap (after (b ∷ [])) (through_all v r d))
