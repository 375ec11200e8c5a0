-- What is taken of a text and what stands behind it make the text, and a lexeme has a byte or more.
use Rattle.std.specs.Prelude.{ℕ, suc, ◌<◌, ◌≡◌, refl, List, [], ◌∷◌, ◌++◌, Bool, true, false, cond, ◌&&◌, eqb, length}
use Rattle.std.proofs.Common.{arith, ap, ◌∙◌, append_assoc, length-append}
use Rattle.reading.specs.Bytes.{digit, apostrophe, dot}
use Rattle.reading.specs.Number.{Taken, taken, unclosed, after, takes, pointed, number}
use Rattle.reading.specs.Reading.{through, closing, blobbed}

abbrev pub splits : Taken → List ℕ → Type 0
splits (taken w r) s = w ++ r ≡ s
splits unclosed s = Unit

pub splits_after : (v s : List ℕ) (x : Taken) → splits x s → splits (after v x) (v ++ s)
splits_after v s (taken w r) h = append_assoc v w r ∙ ap (λ (y : List ℕ). v ++ y) h
splits_after v s unclosed h = tt

-- one of two ways
either : (c : Bool) (x y : Taken) (s : List ℕ) → splits x s → splits y s → splits (cond c x y) s
either true x y s h g = h
either false x y s h g = g

pub takes_splits : (p : ℕ → Bool) (t : List ℕ) → splits (takes p t) t
unfolding takes
takes_splits p [] = refl
takes_splits p (b ∷ t) = either (p b) (after (b ∷ []) (takes p t)) (taken [] (b ∷ t)) (b ∷ t) (splits_after (b ∷ []) t (takes p t) (takes_splits p t)) refl

pub through_splits : (q : ℕ) (t : List ℕ) → splits (through q t) t
unfolding through
through_splits q [] = tt
through_splits q (b ∷ t) = either (eqb b q) (taken (b ∷ []) t) (after (b ∷ []) (through q t)) (b ∷ t) refl (splits_after (b ∷ []) t (through q t) (through_splits q t))

pub blobbed_splits : (t : List ℕ) → splits (blobbed t) t
blobbed_splits [] = tt
blobbed_splits (b ∷ t) = splits_after (b ∷ []) t (through apostrophe t) (through_splits apostrophe t)

pub closing_splits : (q : ℕ) (t : List ℕ) → splits (closing q t) t
unfolding closing
closing_splits q [] = tt
closing_splits q (b ∷ []) = either (eqb b q) (taken (b ∷ []) []) unclosed (b ∷ []) refl tt
closing_splits q (b ∷ c ∷ t) =
    either (eqb b q) (cond (eqb c q) (after (b ∷ c ∷ []) (closing q t)) (taken (b ∷ []) (c ∷ t))) (after (b ∷ []) (closing q (c ∷ t))) (b ∷ c ∷ t)
    (either (eqb c q) (after (b ∷ c ∷ []) (closing q t)) (taken (b ∷ []) (c ∷ t)) (b ∷ c ∷ t) (splits_after (b ∷ c ∷ []) t (closing q t) (closing_splits q t)) refl)
    (splits_after (b ∷ []) (c ∷ t) (closing q (c ∷ t)) (closing_splits q (c ∷ t)))

-- a byte or more
abbrev pub filled : Taken → Type 0
filled (taken w r) = 0 < length w
filled unclosed = Unit

pub filled_after : (b : ℕ) (x : Taken) → filled (after (b ∷ []) x)
filled_after b (taken w r) = omega arith
filled_after b unclosed = tt

-- ---- a number
more : (v : List ℕ) (x : Taken) → 0 < length v → filled (after v x)
more v (taken w r) h = omega (arith, length-append v w)
more v unclosed h = tt

pointed_splits : (x : Taken) (s : List ℕ) → splits x s → splits (pointed x) s
unfolding pointed
pointed_splits unclosed s h = tt
pointed_splits (taken v []) s h = h
pointed_splits (taken v (b ∷ [])) s h = h
pointed_splits (taken v (b ∷ c ∷ r)) s h =
    let d : Taken = takes digit (c ∷ r) in
    either (eqb b dot && digit c) (after v (after (b ∷ []) d)) (taken v (b ∷ c ∷ r)) s
    (rw (← h) (splits_after v (b ∷ c ∷ r) (after (b ∷ []) d) (splits_after (b ∷ []) (c ∷ r) d (takes_splits digit (c ∷ r))))) h

pointed_filled : (x : Taken) → filled x → filled (pointed x)
unfolding pointed
pointed_filled unclosed h = tt
pointed_filled (taken v []) h = h
pointed_filled (taken v (b ∷ [])) h = h
pointed_filled (taken v (b ∷ c ∷ r)) h = by (eqb b dot && digit c)
  where
    by : (y : Bool) → filled (cond y (after v (after (b ∷ []) (takes digit (c ∷ r)))) (taken v (b ∷ c ∷ r)))
    by true = more v (after (b ∷ []) (takes digit (c ∷ r))) h
    by false = h

pub number_splits : (b : ℕ) (t : List ℕ) → splits (number b t) (b ∷ t)
unfolding number
number_splits b t = pointed_splits (after (b ∷ []) (takes digit t)) (b ∷ t) (splits_after (b ∷ []) t (takes digit t) (takes_splits digit t))

pub number_filled : (b : ℕ) (t : List ℕ) → filled (number b t)
unfolding number
number_filled b t = pointed_filled (after (b ∷ []) (takes digit t)) (filled_after b (takes digit t))
