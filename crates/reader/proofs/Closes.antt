-- Bytes that are no quote are passed over: where a quotation ends is the same from behind them on.
use Rattle.std.specs.Prelude.{ℕ, ◌+◌, ◌≤◌, ◌<◌, ◌≡◌, refl, List, [], ◌∷◌, Bool, true, false, cond, not, eqb, length, drop, get_or, Some}
use Rattle.std.proofs.Common.{arith, ap, ◌∙◌}
use Rattle.reading.specs.Number.{Taken, taken, unclosed, after, takes}
use Rattle.reading.specs.Reading.{closing}
use Rattle.reading.proofs.Taking.{closing_other}
use Rattle.reader.specs.Places.{past}
use Rattle.reader.specs.Laws.{past_after}
use Rattle.reader.specs.Numbers.{some_is, taking}
use Rattle.reader.proofs.Laws.{closing_on}

-- what closes a text closes it behind what is taken
abbrev Behind : ℕ → Taken → List ℕ → Type 0
Behind q (taken w r) t = closing q t ≡ after w (closing q r)
Behind q unclosed t = Unit

after_nothing : (x : Taken) → x ≡ after [] x
after_nothing (taken w r) = refl
after_nothing unclosed = refl

after_one : (b : ℕ) (w : List ℕ) (x : Taken) → after (b ∷ []) (after w x) ≡ after (b ∷ w) x
after_one b w (taken v r) = refl
after_one b w unclosed = refl

-- a byte that is not the quote
abbrev pub no_quote : ℕ → ℕ → Bool
no_quote q b = not (eqb b q)

one_more : (q b : ℕ) (t : List ℕ) (x : Taken) → eqb b q ≡ false → Behind q x t → Behind q (after (b ∷ []) x) (b ∷ t)
one_more q b t (taken w r) e h = closing_other q b t e ∙ ap (after (b ∷ [])) h ∙ after_one b w (closing q r)
one_more q b t unclosed e h = tt

behind : (q : ℕ) (t : List ℕ) → Behind q (takes (no_quote q) t) t
unfolding takes
behind q [] = after_nothing (closing q [])
behind q (b ∷ t) = by (eqb b q) refl (behind q t)
  where
    by : (c : Bool) → eqb b q ≡ c → Behind q (takes (no_quote q) t) t → Behind q (cond (not c) (after (b ∷ []) (takes (no_quote q) t)) (taken [] (b ∷ t))) (b ∷ t)
    by true e h = after_nothing (closing q (b ∷ t))
    by false e h = one_more q b t (takes (no_quote q) t) e h

-- from a byte that is no quote on: behind it and those after it
pub closing_far : (q : ℕ) (t : List ℕ) (i j : ℕ) → i < length t → (get_or t i 0 ≡ q → ⊥) → Some j ≡ past (i + 1) (takes (no_quote q) (drop (i + 1) t))
    → (i < j) × ((j ≤ length t) × (past i (closing q (drop i t)) ≡ past j (closing q (drop j t))))
closing_far q t i j l n h =
    let s = taking (no_quote q) t (i + 1) (omega arith) in
    let is : closing q (drop (i + 1) t) ≡ after s.word (closing q (drop (i + 1 + length s.word) t)) = rw s.is at (behind q (drop (i + 1) t)) in
    let place : j ≡ i + 1 + length s.word = some_is j (i + 1 + length s.word) (h ∙ ap (past (i + 1)) s.is) in
    let inside = s.inside in
    let same : past i (closing q (drop i t)) ≡ past j (closing q (drop j t)) =
    closing_on q t i l n ∙ rw (place, is) (past_after (i + 1) s.word (closing q (drop (i + 1 + length s.word) t)))
    in
    (omega (arith, place), (omega (arith, place, inside), same))
