-- Every text is cut in one way, and in no other: the reading comes to an end, since a lexeme that is read leaves a shorter text.
use Rattle.std.specs.Prelude.{ℕ, zero, suc, ◌≤◌, ◌<◌, ◌≡◌, refl, List, [], ◌∷◌, Bool, true, false, cond, ◌&&◌, eqb, length}
use Rattle.std.proofs.Common.{arith, not-suc-le-zero, subst, sym}
use Rattle.laws.specs.Among.{among}
use Rattle.reading.specs.Bytes.{digit, word_byte, exes, apostrophe, dot}
use Rattle.reading.specs.Number.{Taken, taken, unclosed, after, takes, pointed, number}
use Rattle.reading.specs.Lexeme.{Kind, Word, Number, Quoted, Blob, Variable, Operator}
use Rattle.reading.specs.Reading.{operator_byte, Start, blank, mark, quote, digits, word, variable, operator, nothing, start, through, closing, opened, blobbed, Read, lexeme, finish, failure, answer, read, Lexed, Cuts, ended, failed, next}

-- in no other way: one text is read in one way
same_next : (t w r x q : List ℕ) (κ λ' : Kind) → read t ≡ lexeme κ w r → read t ≡ lexeme λ' x q → (κ ≡ λ') × (w ≡ x) × (r ≡ q)
same_next t w r x q κ λ' e f = (cc, cc, cc)

pub cut_once : (t : List ℕ) (ls ms : List Lexed) (u v : List ℕ) → Cuts t ls u → Cuts t ms v → (ls ≡ ms) × (u ≡ v)
cut_once t _ _ _ _ (ended e) (ended f) = (refl, refl)
cut_once t _ _ _ _ (ended e) (failed f) = (cc, cc)
cut_once t _ _ _ _ (ended e) (next f d) = (cc, cc)
cut_once t _ _ _ _ (failed e) (ended f) = (cc, cc)
cut_once t _ _ _ _ (failed e) (failed f) = (refl, cc)
cut_once t _ _ _ _ (failed e) (next f d) = (cc, cc)
cut_once t _ _ _ _ (next e c) (ended f) = (cc, cc)
cut_once t _ _ _ _ (next e c) (failed f) = (cc, cc)
cut_once t _ _ u v (next {w = w} {r = r} {κ = κ} {ls = ls} e c) (next {w = x} {r = q} {κ = κ'} {ls = ms} f d) =
    let s : (κ ≡ κ') × (w ≡ x) × (r ≡ q) = same_next t w r x q κ κ' e f in
    let i : (ls ≡ ms) × (u ≡ v) = cut_once r ls ms u v c (subst (λ (y : List ℕ). Cuts y ms v) (sym s.2) d) in
    (rw (s.0, s.1, i.0), i.1)

-- in one way: what is left is no longer than the text, and behind a lexeme it is shorter
abbrev leaves : Taken → ℕ → Type 0
leaves (taken w r) n = length r ≤ n
leaves unclosed n = Unit

leaves_after : (x : Taken) (v : List ℕ) (m n : ℕ) → m ≤ n → leaves x m → leaves (after v x) n
leaves_after (taken w r) v m n l h = omega arith
leaves_after unclosed v m n l h = tt

takes_leaves : (p : ℕ → Bool) (t : List ℕ) → leaves (takes p t) (length t)
unfolding takes
takes_leaves p [] = omega arith
takes_leaves p (b ∷ t) = by (p b) (leaves_after (takes p t) (b ∷ []) (length t) (suc (length t)) (omega arith) (takes_leaves p t))
  where
    by : (c : Bool) → leaves (after (b ∷ []) (takes p t)) (suc (length t)) → leaves (cond c (after (b ∷ []) (takes p t)) (taken [] (b ∷ t))) (suc (length t))
    by true h = h
    by false h = omega arith

through_leaves : (q : ℕ) (t : List ℕ) → leaves (through q t) (length t)
unfolding through
through_leaves q [] = tt
through_leaves q (b ∷ t) = by (eqb b q) (leaves_after (through q t) (b ∷ []) (length t) (suc (length t)) (omega arith) (through_leaves q t))
  where
    by : (c : Bool) → leaves (after (b ∷ []) (through q t)) (suc (length t)) → leaves (cond c (taken (b ∷ []) t) (after (b ∷ []) (through q t))) (suc (length t))
    by true h = omega arith
    by false h = h

closing_leaves : (q : ℕ) (t : List ℕ) → leaves (closing q t) (length t)
unfolding closing
closing_leaves q [] = tt
closing_leaves q (b ∷ []) = by (eqb b q)
  where
    by : (c : Bool) → leaves (cond c (taken (b ∷ []) []) unclosed) 1
    by true = omega arith
    by false = tt
closing_leaves q (b ∷ c ∷ t) =
    let n : ℕ = suc (suc (length t)) in
    by (eqb b q) (eqb c q)
    (leaves_after (closing q t) (b ∷ c ∷ []) (length t) n (omega arith) (closing_leaves q t))
    (leaves_after (closing q (c ∷ t)) (b ∷ []) (suc (length t)) n (omega arith) (closing_leaves q (c ∷ t)))
  where
    by : (x y : Bool) → leaves (after (b ∷ c ∷ []) (closing q t)) (suc (suc (length t))) → leaves (after (b ∷ []) (closing q (c ∷ t))) (suc (suc (length t)))
        → leaves (cond x (cond y (after (b ∷ c ∷ []) (closing q t)) (taken (b ∷ []) (c ∷ t))) (after (b ∷ []) (closing q (c ∷ t)))) (suc (suc (length t)))
    by true true h g = h
    by true false h g = omega arith
    by false y h g = g

pointed_leaves : (x : Taken) (n : ℕ) → leaves x n → leaves (pointed x) n
unfolding pointed
pointed_leaves unclosed n h = tt
pointed_leaves (taken v []) n h = h
pointed_leaves (taken v (b ∷ [])) n h = h
pointed_leaves (taken v (b ∷ c ∷ r)) n h =
    let d : Taken = takes digit (c ∷ r) in
    by (eqb b dot && digit c)
    (leaves_after (after (b ∷ []) d) v n n (omega arith) (leaves_after d (b ∷ []) (suc (length r)) n (omega arith) (takes_leaves digit (c ∷ r))))
  where
    by : (x : Bool) → leaves (after v (after (b ∷ []) (takes digit (c ∷ r)))) n → leaves (cond x (after v (after (b ∷ []) (takes digit (c ∷ r)))) (taken v (b ∷ c ∷ r))) n
    by true g = g
    by false g = h

number_leaves : (b : ℕ) (t : List ℕ) → leaves (number b t) (length t)
unfolding number
number_leaves b t = pointed_leaves (after (b ∷ []) (takes digit t)) (length t) (leaves_after (takes digit t) (b ∷ []) (length t) (length t) (omega arith) (takes_leaves digit t))

blobbed_leaves : (t : List ℕ) → leaves (blobbed t) (length t)
blobbed_leaves [] = tt
blobbed_leaves (b ∷ t) = leaves_after (through apostrophe t) (b ∷ []) (length t) (suc (length t)) (omega arith) (through_leaves apostrophe t)

-- what a reading leaves behind a lexeme, if it reads one
abbrev pub under : Read → ℕ → Type 0
under (lexeme κ w r) n = length r < n
under finish n = Unit
under (failure u) n = Unit

under_answer : (κ : Kind) (t : List ℕ) (x : Taken) (n : ℕ) → leaves x n → under (answer κ t x) (suc n)
under_answer κ t (taken w r) n h = omega arith
under_answer κ t unclosed n h = tt

under_more : (x : Read) (n : ℕ) → under x n → under x (suc n)
under_more (lexeme κ w r) n h = omega arith
under_more finish n h = tt
under_more (failure u) n h = tt

under_first : (κ : Kind) (b : ℕ) (t u : List ℕ) (x : Taken) → leaves x (length t) → under (answer κ u (after (b ∷ []) x)) (suc (length t))
under_first κ b t u x h = under_answer κ u (after (b ∷ []) x) (length t) (leaves_after x (b ∷ []) (length t) (length t) (omega arith) h)

pub read_shorter : (t : List ℕ) → under (read t) (length t)
unfolding read
read_shorter [] = tt
read_shorter (b ∷ t) = by (start b) refl (read_shorter t)
  where
    in_word : (x : Bool) → under (cond x (answer Blob (b ∷ t) (after (b ∷ []) (blobbed t))) (answer Word (b ∷ t) (after (b ∷ []) (takes word_byte t)))) (suc (length t))
    in_word true = under_first Blob b t (b ∷ t) (blobbed t) (blobbed_leaves t)
    in_word false = under_first Word b t (b ∷ t) (takes word_byte t) (takes_leaves word_byte t)

    by : (s : Start) → start b ≡ s → under (read t) (length t) → under (read (b ∷ t)) (suc (length t))
    by blank e h = rw (e, read) (under_more (read t) (length t) h)
    by mark e h = rw (e, read) (omega arith)
    by quote e h = rw (e, read) (under_first Quoted b t (b ∷ t) (closing b t) (closing_leaves b t))
    by digits e h = rw (e, read) (under_answer Number (b ∷ t) (number b t) (length t) (number_leaves b t))
    by word e h = rw (e, read) (in_word (among b exes && opened t))
    by variable e h = rw (e, read) (under_first Variable b t (b ∷ t) (takes word_byte t) (takes_leaves word_byte t))
    by operator e h = rw (e, read) (under_first Operator b t (b ∷ t) (takes operator_byte t) (takes_leaves operator_byte t))
    by nothing e h = rw (e, read) tt

-- the way in which a text is cut
pub record Cut (t : List ℕ) : Type 0 where
  pub lexemes : List Lexed
  pub left : List ℕ
  pub is : Cuts t lexemes left

one_then : (t : List ℕ) → ((r : List ℕ) → length r < length t → Cut r) → Cut t
one_then t k = by (read t) refl (read_shorter t)
  where
    by : (x : Read) → read t ≡ x → under (read t) (length t) → Cut t
    by (lexeme κ w r) e g = let c : Cut r = k r (rw e at g) in record { lexemes = (κ, w) ∷ c.lexemes; left = c.left; is = next e c.is }
    by finish e g = record { lexemes = []; left = []; is = ended e }
    by (failure u) e g = record { lexemes = []; left = u; is = failed e }

cut_under : (n : ℕ) (t : List ℕ) → length t ≤ n → Cut t
cut_under zero t h = one_then t (λ r l. absurd (not-suc-le-zero {n = length r} (omega arith)))
cut_under (suc n) t h = one_then t (λ r l. cut_under n r (omega arith))

pub cut : (t : List ℕ) → Cut t
cut t = cut_under (length t) t (omega arith)
