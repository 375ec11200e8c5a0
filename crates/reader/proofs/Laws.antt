-- What is taken from a place of a text on, a byte at a time: where it ends is the same from the next place on, or is here.
use Rattle.std.specs.Prelude.{ℕ, ◌+◌, ◌≤◌, ◌<◌, ◌≡◌, List, [], ◌∷◌, Bool, true, ◌&&◌, length, drop, get_or}
use Rattle.std.proofs.Common.{arith, ne_eqb, sym, ◌∙◌}
use Rattle.laws.specs.Tests.{and_left, and_right}
use Rattle.reading.specs.Bytes.{apostrophe}
use Rattle.reading.specs.Number.{Taken, after, takes}
use Rattle.reading.specs.Reading.{through, closing}
use Rattle.reading.proofs.Taking.{closing_other, closing_doubled}
use Rattle.reader.specs.Places.{past}
use Rattle.reader.specs.Laws.{byte_then, past_after}

past_one : (i b : ℕ) (x : Taken) → past i (after (b ∷ []) x) ≡ past (i + 1) x
past_one i b x = past_after i (b ∷ []) x

-- ---- bytes of a sort
pub takes_on : (p : ℕ → Bool) (t : List ℕ) (i : ℕ) → i < length t → p (get_or t i 0) ≡ true → past i (takes p (drop i t)) ≡ past (i + 1) (takes p (drop (i + 1) t))
unfolding takes
takes_on p t i h e = rw (byte_then t i h, e) (past_one i (get_or t i 0) (takes p (drop (i + 1) t)))

pub takes_four : (p : ℕ → Bool) (t : List ℕ) (i : ℕ) → i + 4 ≤ length t → {a b c d : Bool} → a ≡ p (get_or t i 0) → b ≡ p (get_or t (i + 1) 0)
    → c ≡ p (get_or t (i + 2) 0) → d ≡ p (get_or t (i + 3) 0) → ((a && b) && c) && d ≡ true → past i (takes p (drop i t)) ≡ past (i + 4) (takes p (drop (i + 4) t))
takes_four p t i h {a} {b} {c} {d} is js ks ls all =
    let two : i + 1 + 1 ≡ i + 2 = omega arith in
    let three : i + 2 + 1 ≡ i + 3 = omega arith in
    let four : i + 3 + 1 ≡ i + 4 = omega arith in
    let of_three = and_left ((a && b) && c) d all in
    let of_two = and_left (a && b) c of_three in
    takes_on p t i (omega arith) (sym is ∙ and_left a b of_two) ∙ (rw two at (takes_on p t (i + 1) (omega arith) (sym js ∙ and_right a b of_two)))
    ∙ (rw three at (takes_on p t (i + 2) (omega arith) (sym ks ∙ and_right (a && b) c of_three)))
    ∙ (rw four at (takes_on p t (i + 3) (omega arith) (sym ls ∙ and_right ((a && b) && c) d all)))

pub takes_eight : (p : ℕ → Bool) (t : List ℕ) (i : ℕ) → i + 8 ≤ length t → {a b c d e f g h : Bool} → a ≡ p (get_or t i 0) → b ≡ p (get_or t (i + 1) 0)
    → c ≡ p (get_or t (i + 2) 0) → d ≡ p (get_or t (i + 3) 0) → e ≡ p (get_or t (i + 4) 0) → f ≡ p (get_or t (i + 5) 0) → g ≡ p (get_or t (i + 6) 0)
    → h ≡ p (get_or t (i + 7) 0) → (((a && b) && c) && d) && (((e && f) && g) && h) ≡ true
    → past i (takes p (drop i t)) ≡ past (i + 8) (takes p (drop (i + 8) t))
takes_eight p t i l {a} {b} {c} {d} {e} {f} {g} {h} is js ks ls ms ns os qs all =
    let five : i + 4 + 1 ≡ i + 5 = omega arith in
    let six : i + 4 + 2 ≡ i + 6 = omega arith in
    let seven : i + 4 + 3 ≡ i + 7 = omega arith in
    let eight : i + 4 + 4 ≡ i + 8 = omega arith in
    let four = ((a && b) && c) && d in
    let more = ((e && f) && g) && h in
    takes_four p t i (omega arith) is js ks ls (and_left four more all)
    ∙ (rw eight at (takes_four p t (i + 4) (omega arith) ms (rw five ns) (rw six os) (rw seven qs) (and_right four more all)))

-- ---- a quotation
pub closing_on : (q : ℕ) (t : List ℕ) (i : ℕ) → i < length t → (get_or t i 0 ≡ q → ⊥) → past i (closing q (drop i t)) ≡ past (i + 1) (closing q (drop (i + 1) t))
closing_on q t i h n =
    rw (byte_then t i h, closing_other q (get_or t i 0) (drop (i + 1) t) (ne_eqb (get_or t i 0) q n)) (past_one i (get_or t i 0) (closing q (drop (i + 1) t)))

pub closing_twice : (q : ℕ) (t : List ℕ) (i : ℕ) → i + 1 < length t → get_or t i 0 ≡ q → get_or t (i + 1) 0 ≡ q → past i (closing q (drop i t)) ≡ past (i + 2) (closing q (drop (i + 2) t))
closing_twice q t i h e f =
    let two : i + 1 + 1 ≡ i + 2 = omega arith in
    rw (byte_then t i (omega arith), byte_then t (i + 1) h, two, e, f, closing_doubled q (drop (i + 2) t)) (past_after i (q ∷ q ∷ []) (closing q (drop (i + 2) t)))

-- ---- a blob
pub through_on : (t : List ℕ) (i : ℕ) → i < length t → (get_or t i 0 ≡ apostrophe → ⊥) → past i (through apostrophe (drop i t)) ≡ past (i + 1) (through apostrophe (drop (i + 1) t))
unfolding through
through_on t i h n = rw (byte_then t i h, ne_eqb (get_or t i 0) apostrophe n) (past_one i (get_or t i 0) (through apostrophe (drop (i + 1) t)))
