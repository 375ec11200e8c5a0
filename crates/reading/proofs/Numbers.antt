-- A number is taken whole where neither a digit nor a dot follows it. A wider list of numbers changes this file and Number.antt alone.
use Rattle.std.specs.Prelude.{ℕ, ◌≡◌, refl, List, [], ◌∷◌, ◌++◌, true, false, eqb}
use Rattle.std.proofs.Common.{append_assoc}
use Rattle.std.proofs.lemmas.Bool.{not-true}
use Rattle.laws.specs.Among.{all}
use Rattle.reading.specs.Bytes.{digit, dot}
use Rattle.reading.specs.Number.{Digits, digits, Numeral, whole, fraction, taken, takes, pointed, number}
use Rattle.reading.proofs.Taking.{stops, takes_all}

-- a number with r behind it: a digit stands first, and the number is what is taken
pub record Counted (w r : List ℕ) : Type 0 where
  pub byte : ℕ
  pub tail : List ℕ
  pub is : w ≡ byte ∷ tail
  pub first : digit byte ≡ true
  pub takes : number byte (tail ++ r) ≡ taken w r

pointed_none : (w r : List ℕ) → stops (λ c. eqb c dot) r ≡ true → pointed (taken w r) ≡ taken w r
unfolding pointed
pointed_none w [] h = refl
pointed_none w (b ∷ []) h = refl
pointed_none w (b ∷ c ∷ r) h = rw (not-true (eqb b dot) h)

pointed_one : (v w r : List ℕ) → Digits w → stops digit r ≡ true → pointed (taken v (dot ∷ (w ++ r))) ≡ taken (v ++ (dot ∷ w)) r
unfolding pointed
pointed_one v _ r (digits {b} {v = w} d h) s = rw (d, takes_all digit (b ∷ w) r (rw (d, h)) s)

no_digit : digit dot ≡ false
unfolding digit
no_digit = refl

whole_takes : (b : ℕ) (v r : List ℕ) → all digit v ≡ true → stops digit r ≡ true → stops (λ c. eqb c dot) r ≡ true → number b (v ++ r) ≡ taken (b ∷ v) r
unfolding number
whole_takes b v r h s n = rw (takes_all digit v r h s) (pointed_none (b ∷ v) r n)

fraction_takes : (b : ℕ) (v w r : List ℕ) → all digit v ≡ true → Digits w → stops digit r ≡ true → number b ((v ++ (dot ∷ w)) ++ r) ≡ taken (b ∷ (v ++ (dot ∷ w))) r
unfolding number
fraction_takes b v w r h d s =
    rw (append_assoc v (dot ∷ w) r, takes_all digit v (dot ∷ (w ++ r)) h (rw no_digit)) (pointed_one (b ∷ v) w r d s)

pub counted : (w r : List ℕ) → Numeral w → stops digit r ≡ true → stops (λ c. eqb c dot) r ≡ true → Counted w r
counted _ r (whole (digits {b} {v} d h)) s n = record { byte = b; tail = v; is = refl; first = d; takes = whole_takes b v r h s n }
counted _ r (fraction {w = w} (digits {b} {v} d h) e) s n =
    record { byte = b; tail = v ++ (dot ∷ w); is = refl; first = d; takes = fraction_takes b v w r h e s }
