-- Where a number ends: behind its digits, or behind a dot and digits.
use Rattle.std.specs.Prelude.{ℕ, ◌+◌, ◌≤◌, ◌<◌, ◌≡◌, refl, List, [], ◌∷◌, ◌++◌, Bool, true, false, cond, ◌&&◌, eqb, length, drop, get_or, Some}
use Rattle.std.proofs.Common.{arith, not-suc-le-zero, sym, ap, ◌∙◌, length-append, length-drop, drop-drop}
use Rattle.std.proofs.Math.Seq.{drop-append_seam}
use Rattle.reading.specs.Bytes.{digit, dot}
use Rattle.reading.specs.Number.{Taken, taken, after, takes, pointed, number}
use Rattle.reader.specs.Places.{past}
use Rattle.reader.specs.Laws.{byte_then}
use Rattle.reader.specs.Splits.{takes_splits}

-- bytes of a sort are never left open
record Whole (x : Taken) : Type 0 where
  word : List ℕ
  rest : List ℕ
  is : x ≡ taken word rest

takes_some : (p : ℕ → Bool) (t : List ℕ) → Whole (takes p t)
unfolding takes
takes_some p [] = record { word = []; rest = []; is = refl }
takes_some p (b ∷ t) = by (p b) (takes_some p t)
  where
    by : (c : Bool) → Whole (takes p t) → Whole (cond c (after (b ∷ []) (takes p t)) (taken [] (b ∷ t)))
    by true s = record { word = b ∷ s.word; rest = s.rest; is = rw s.is }
    by false s = record { word = []; rest = b ∷ t; is = refl }

-- what is taken from a place on, and what stands behind it
pub record Taking (p : ℕ → Bool) (t : List ℕ) (i : ℕ) : Type 0 where
  pub word : List ℕ
  pub is : takes p (drop i t) ≡ taken word (drop (i + length word) t)
  pub inside : i + length word ≤ length t

pub taking : (p : ℕ → Bool) (t : List ℕ) (i : ℕ) → i ≤ length t → Taking p t i
taking p t i l =
    let s = takes_some p (drop i t) in
    let h : s.word ++ s.rest ≡ drop i t = rw s.is at (takes_splits p (drop i t)) in
    let behind : s.rest ≡ drop (i + length s.word) t = sym (drop-append_seam s.word s.rest) ∙ (rw h (drop-drop (length s.word) i t)) in
    record {
      word = s.word;
      is = s.is ∙ ap (taken s.word) behind;
      inside = omega (arith, ap length h, length-append s.word s.rest, length-drop i t);
    }

pub some_is : (m n : ℕ) → Some m ≡ Some n → m ≡ n
some_is m n e = cc

pub takes_inside : (p : ℕ → Bool) (t : List ℕ) (i e : ℕ) → i ≤ length t → Some e ≡ past i (takes p (drop i t)) → e ≤ length t
takes_inside p t i e l h = let s = taking p t i l in rw (some_is _ _ (h ∙ ap (past i) s.is)) s.inside

-- a number is its first digit, the digits behind it, and what a dot adds to them
pub number_is : (t : List ℕ) (at : ℕ) → at < length t → (s : Taking digit t (at + 1)) → (e : ℕ) → e ≡ at + 1 + length s.word
    → number (get_or t at 0) (drop (at + 1) t) ≡ pointed (taken (get_or t at 0 ∷ s.word) (drop e t))
unfolding number
number_is t at l s e h = rw (s.is, h)

-- no dot with a digit behind it
pub number_whole : (t : List ℕ) (at e : ℕ) → at < length t → Some e ≡ past (at + 1) (takes digit (drop (at + 1) t))
    → ((v : List ℕ) → pointed (taken v (drop e t)) ≡ taken v (drop e t)) → Some e ≡ past at (number (get_or t at 0) (drop (at + 1) t))
number_whole t at e l h none =
    let s = taking digit t (at + 1) (omega arith) in
    let place : e ≡ at + 1 + length s.word = some_is e (at + 1 + length s.word) (h ∙ ap (past (at + 1)) s.is) in
    rw (number_is t at l s e place, none (get_or t at 0 ∷ s.word)) (ap Some (omega arith))

pub no_dot_left : (t : List ℕ) (e : ℕ) → e ≤ length t → length t ≤ e + 1 → (v : List ℕ) → pointed (taken v (drop e t)) ≡ taken v (drop e t)
unfolding pointed
no_dot_left t e l h v = by (drop e t) (omega (arith, length-drop e t))
  where
    by : (r : List ℕ) → length r ≤ 1 → pointed (taken v r) ≡ taken v r
    by [] n = refl
    by (b ∷ []) n = refl
    by (b ∷ c ∷ r) n = absurd (not-suc-le-zero {n = 0} (omega arith))

pub two_then : (t : List ℕ) (e : ℕ) → e + 1 < length t → drop e t ≡ get_or t e 0 ∷ get_or t (e + 1) 0 ∷ drop (e + 1 + 1) t
two_then t e h = byte_then t e (omega arith) ∙ rw (byte_then t (e + 1) h)

pub no_dot : (t : List ℕ) (e : ℕ) → e + 1 < length t → (eqb (get_or t e 0) dot && digit (get_or t (e + 1) 0)) ≡ false → (v : List ℕ) → pointed (taken v (drop e t)) ≡ taken v (drop e t)
unfolding pointed
no_dot t e h n v = rw (two_then t e h, n)
