-- What is read behind the blanks that a text begins with is what is read of the text.
use Rattle.std.specs.Prelude.{ℕ, ◌+◌, ◌≤◌, ◌≡◌, refl, List, [], ◌∷◌, Bool, true, false, cond, length, drop, Some}
use Rattle.std.proofs.Common.{arith, sym, ap, ◌∙◌}
use Rattle.laws.specs.Among.{among}
use Rattle.reading.specs.Bytes.{blanks}
use Rattle.reading.specs.Number.{Taken, taken, unclosed, after, takes}
use Rattle.reading.specs.Reading.{read}
use Rattle.reader.specs.Places.{past, bare, Skips}
use Rattle.reader.specs.Sorts.{begins_blank}
use Rattle.reader.specs.Numbers.{some_is, taking}

-- what stands behind what is taken reads as the text does, and begins with no blank
abbrev Behind : Taken → List ℕ → Type 0
Behind (taken w r) t = (read r ≡ read t) × bare r
Behind unclosed t = Unit

one_more : (b : ℕ) (x : Taken) (t : List ℕ) → read t ≡ read (b ∷ t) → Behind x t → Behind (after (b ∷ []) x) (b ∷ t)
one_more b (taken w r) t e h = (h.0 ∙ e, h.1)
one_more b unclosed t e h = tt

read_on : (b : ℕ) (t : List ℕ) → among b blanks ≡ true → read t ≡ read (b ∷ t)
unfolding read
read_on b t e = rw (begins_blank b e, read)

behind : (t : List ℕ) → Behind (takes (λ b. among b blanks) t) t
unfolding takes
behind [] = (refl, tt)
behind (b ∷ t) = by (among b blanks) refl (behind t)
  where
    by : (c : Bool) → among b blanks ≡ c → Behind (takes (λ b'. among b' blanks) t) t → Behind (cond c (after (b ∷ []) (takes (λ b'. among b' blanks) t)) (taken [] (b ∷ t))) (b ∷ t)
    by true e h = one_more b (takes (λ b'. among b' blanks) t) t (read_on b t e) h
    by false e h = (refl, e)

pub skipped : (t : List ℕ) (e : ℕ) → Some e ≡ past 0 (takes (λ b. among b blanks) (drop 0 t)) → Skips t e
skipped t e h =
    let s = taking (λ b. among b blanks) t 0 (omega arith) in
    let r : (read (drop (0 + length s.word) t) ≡ read (drop 0 t)) × bare (drop (0 + length s.word) t) = rw s.is at (behind (drop 0 t)) in
    let place : e ≡ 0 + length s.word = some_is e (0 + length s.word) (h ∙ ap (past 0) s.is) in
    rw place (record { inside = s.inside; same = r.0; stands = r.1 })
