-- What is taken from a place of a text on, a byte at a time: where it ends is the same from the next place on, or is here.
use Rattle.std.specs.Prelude.{ℕ, ◌+◌, ◌≤◌, ◌<◌, ◌≡◌, refl, List, [], ◌∷◌, Bool, true, false, eqb, leb, length, drop, get_or, Some, None}
use Rattle.std.proofs.Common.{arith, ap, add-one, ◌∙◌, sym, length-append, drop_of_length-le, drop-cons, ne_eqb, leb-true, leb-false}
use Rattle.std.proofs.lemmas.Bool.{false≢true}
use Rattle.reading.specs.Bytes.{apostrophe}
use Rattle.reading.specs.Number.{Taken, taken, unclosed, after, takes}
use Rattle.laws.specs.Among.{among}
use Rattle.reading.specs.Bytes.{blanks}
use Rattle.reading.specs.Reading.{through, closing, opened, read}
use Rattle.reading.proofs.Taking.{closing_last}
use Rattle.reader.specs.Places.{past, bare}
use Rattle.reader.specs.Sorts.{begins_blank}

-- the byte at a place, and the others
pub byte_then : (t : List ℕ) (i : ℕ) → i < length t → drop i t ≡ get_or t i 0 ∷ drop (i + 1) t
byte_then t i h = rw (add-one i) (drop-cons t i 0 h)

pub past_after : (at : ℕ) (v : List ℕ) (x : Taken) → past at (after v x) ≡ past (at + length v) x
past_after at v (taken w r) = ap Some (omega (arith, length-append v w))
past_after at v unclosed = refl

pub takes_off : (p : ℕ → Bool) (t : List ℕ) (i : ℕ) → i < length t → p (get_or t i 0) ≡ false → past i (takes p (drop i t)) ≡ Some i
unfolding takes
takes_off p t i h e = rw (byte_then t i h, e) (ap Some (omega arith))

pub takes_end : (p : ℕ → Bool) (t : List ℕ) (i : ℕ) → length t ≤ i → past i (takes p (drop i t)) ≡ Some i
unfolding takes
takes_end p t i h = rw (drop_of_length-le t h) (ap Some (omega arith))

pub closing_once : (q : ℕ) (t : List ℕ) (i : ℕ) → i + 1 < length t → get_or t i 0 ≡ q → (get_or t (i + 1) 0 ≡ q → ⊥) → past i (closing q (drop i t)) ≡ Some (i + 1)
closing_once q t i h e n =
    rw (byte_then t i (omega arith), byte_then t (i + 1) h, e, closing_last q (get_or t (i + 1) 0 ∷ drop (i + 1 + 1) t) (rw (ne_eqb (get_or t (i + 1) 0) q n)))

pub closing_at_end : (q : ℕ) (t : List ℕ) (i : ℕ) → i < length t → length t ≤ i + 1 → get_or t i 0 ≡ q → past i (closing q (drop i t)) ≡ Some (i + 1)
closing_at_end q t i h l e = rw (byte_then t i h, drop_of_length-le t l, e, closing_last q [] refl)

pub closing_never : (q : ℕ) (t : List ℕ) (i : ℕ) → length t ≤ i → past i (closing q (drop i t)) ≡ None
unfolding closing
closing_never q t i h = rw (drop_of_length-le t h)

pub through_here : (t : List ℕ) (i : ℕ) → i < length t → get_or t i 0 ≡ apostrophe → past i (through apostrophe (drop i t)) ≡ Some (i + 1)
unfolding through
through_here t i h e = rw (byte_then t i h, e)

pub through_never : (t : List ℕ) (i : ℕ) → length t ≤ i → past i (through apostrophe (drop i t)) ≡ None
unfolding through
through_never t i h = rw (drop_of_length-le t h)

pub opened_not : (t : List ℕ) (i : ℕ) → length t ≤ i → opened (drop i t) ≡ false
opened_not t i h = rw (drop_of_length-le t h)

pub opened_next : (t : List ℕ) (i : ℕ) → i < length t → opened (drop i t) ≡ eqb (get_or t i 0) apostrophe
opened_next t i h = rw (byte_then t i h)

pub opened_inside : (t : List ℕ) (i : ℕ) → opened (drop i t) ≡ true → i < length t
opened_inside t i h = by (leb (length t) i) refl
  where
    by : (c : Bool) → leb (length t) i ≡ c → i < length t
    by true e = absurd (false≢true (sym (opened_not t i (leb-true (length t) i e)) ∙ h))
    by false e = leb-false (length t) i e

-- ---- blanks
pub blank_on : (t : List ℕ) (i : ℕ) → i < length t → among (get_or t i 0) blanks ≡ true → read (drop i t) ≡ read (drop (i + 1) t)
unfolding read
blank_on t i h e = rw (byte_then t i h, begins_blank (get_or t i 0) e, read)

pub bare_here : (t : List ℕ) (i : ℕ) → i < length t → among (get_or t i 0) blanks ≡ false → bare (drop i t)
bare_here t i h e = rw (byte_then t i h) e

pub not_blank : (t : List ℕ) (i : ℕ) → i < length t → bare (drop i t) → among (get_or t i 0) blanks ≡ false
not_blank t i h b = rw (byte_then t i h) at b

pub bare_end : (t : List ℕ) (i : ℕ) → length t ≤ i → bare (drop i t)
bare_end t i h = rw (drop_of_length-le t h) tt
