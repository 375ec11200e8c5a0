-- The definition's search through the 25, by how many bytes the characters take; and each way out of the code's.
use Prim.Native.Nat.{ℕ, ◌≤◌, ◌<◌}
use native.Mathlib.Omega.{arith}
use mathlib.Core.Path.{◌≡◌, refl}
use mathlib.Core.List.{List, [], ◌∷◌, ◌++◌}
use mathlib.Core.Bool.{Bool, true, false, cond, ◌||◌, and-false}
use lib.ListN.{length, get_or, drop, drop_of_length-le}
use lib.Dec.{eqb}
use borrow.Author.Tests.{eqb-true}
use Rattle.laws.specs.Among.{all}
use Rattle.laws.specs.Tests.{and_parts}
use Rattle.white.specs.White.{white_length, encode, begins, length_among}
use Rattle.white.specs.Steps.{ones, twos, threes, begins_one_of}

-- characters that take n bytes each
group : (n : ℕ) (s cs ds : List ℕ) → all (λ c. eqb (length (encode c)) n) cs ≡ true → length_among s (cs ++ ds) ≡ cond (begins_one_of s cs) n (length_among s ds)
unfolding length_among begins_one_of
group n s [] ds h = refl
group n s (c ∷ cs) ds h =
    let p = and_parts (eqb (length (encode c)) n) (all (λ c. eqb (length (encode c)) n) cs) h in
    by (begins s (encode c)) (eqb-true (length (encode c)) n p.0) (group n s cs ds p.1)
  where
    by : (b : Bool) → length (encode c) ≡ n → length_among s (cs ++ ds) ≡ cond (begins_one_of s cs) n (length_among s ds) → cond b (length (encode c)) (length_among s (cs ++ ds)) ≡ cond (b || begins_one_of s cs) n (length_among s ds)
    by true e r = e
    by false e r = r

-- what each of the code's tests decides, where there are bytes for it
pub by_one : (s : List ℕ) → 1 ≤ length s → white_length s ≡ cond (begins_one_of (get_or s 0 0 ∷ []) ones) 1 (length_among s (twos ++ threes))
unfolding white_length begins_one_of
by_one [] h = absurd (omega arith)
by_one (a ∷ t) h = group 1 (a ∷ t) ones (twos ++ threes) refl

pub by_two : (s : List ℕ) → 2 ≤ length s → length_among s (twos ++ threes) ≡ cond (begins_one_of (get_or s 0 0 ∷ get_or s 1 0 ∷ []) twos) 2 (length_among s threes)
unfolding begins_one_of
by_two [] h = absurd (omega arith)
by_two (a ∷ []) h = absurd (omega arith)
by_two (a ∷ b ∷ t) h = group 2 (a ∷ b ∷ t) twos threes refl

pub by_three : (s : List ℕ) → 3 ≤ length s → length_among s threes ≡ cond (begins_one_of (get_or s 0 0 ∷ get_or s 1 0 ∷ get_or s 2 0 ∷ []) threes) 3 0
unfolding length_among begins_one_of
by_three [] h = absurd (omega arith)
by_three (a ∷ []) h = absurd (omega arith)
by_three (a ∷ b ∷ []) h = absurd (omega arith)
by_three (a ∷ b ∷ c ∷ t) h = group 3 (a ∷ b ∷ c ∷ t) threes [] refl

-- and where there are too few
pub none_of : (s : List ℕ) → length s < 1 → white_length s ≡ 0
unfolding white_length length_among
none_of [] h = refl
none_of (a ∷ t) h = absurd (omega arith)

pub too_few_for_two : (s : List ℕ) → 1 ≤ length s → length s < 2 → length_among s (twos ++ threes) ≡ 0
unfolding length_among
too_few_for_two [] h l = absurd (omega arith)
too_few_for_two (a ∷ []) h l = simp and-false
too_few_for_two (a ∷ b ∷ t) h l = absurd (omega arith)

pub too_few_for_three : (s : List ℕ) → 2 ≤ length s → length s < 3 → length_among s threes ≡ 0
unfolding length_among
too_few_for_three [] h l = absurd (omega arith)
too_few_for_three (a ∷ []) h l = absurd (omega arith)
too_few_for_three (a ∷ b ∷ []) h l = simp and-false
too_few_for_three (a ∷ b ∷ c ∷ t) h l = absurd (omega arith)

pub past_end : (s : List ℕ) (i : ℕ) → length s ≤ i → white_length (drop i s) ≡ 0
unfolding white_length length_among
past_end s i h = rw (drop_of_length-le s h)
