-- Where a number ends: behind its digits, or behind a dot and digits.
use Rattle.std.specs.Prelude.{ℕ, ◌+◌, ◌<◌, ◌≡◌, List, [], ◌∷◌, true, ◌&&◌, eqb, length, drop, get_or, Option, Some}
use Rattle.std.proofs.Common.{arith, ap, ◌∙◌, eq-eqb}
use Rattle.reading.specs.Bytes.{digit, dot}
use Rattle.reading.specs.Number.{Taken, taken, after, takes, pointed, number}
use Rattle.reader.specs.Places.{past}
use Rattle.reader.specs.Laws.{byte_then, past_after}
use Rattle.reader.specs.Numbers.{some_is, taking, number_is, two_then}

-- a dot and a digit
pub number_dotted : (t : List ℕ) (at e : ℕ) (f : Option ℕ) → at < length t → Some e ≡ past (at + 1) (takes digit (drop (at + 1) t)) → e + 1 < length t
    → get_or t e 0 ≡ dot → digit (get_or t (e + 1) 0) ≡ true → f ≡ past (e + 1) (takes digit (drop (e + 1) t)) → f ≡ past at (number (get_or t at 0) (drop (at + 1) t))
unfolding pointed
number_dotted t at e f l h m d g k =
    let s = taking digit t (at + 1) (omega arith) in
    let place : e ≡ at + 1 + length s.word = some_is e (at + 1 + length s.word) (h ∙ ap (past (at + 1)) s.is) in
    let v : List ℕ = get_or t at 0 ∷ s.word in
    let x : Taken = takes digit (drop (e + 1) t) in
    let is-dot : (eqb (get_or t e 0) dot && digit (get_or t (e + 1) 0)) ≡ true = rw (eq-eqb (get_or t e 0) dot d, g) in
    let behind : pointed (taken v (drop e t)) ≡ after v (after (get_or t e 0 ∷ []) x) = rw (two_then t e m, is-dot, byte_then t (e + 1) m) in
    rw (number_is t at l s e place, behind, past_after at v (after (get_or t e 0 ∷ []) x), past_after (at + length v) (get_or t e 0 ∷ []) x) (k ∙ ap (λ (i : ℕ). past i x) (omega arith))
