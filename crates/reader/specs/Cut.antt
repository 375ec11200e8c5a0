-- 02, iii: what the call gives is determined, and "Cut from end to end" by calling it on the rest again and again: exactly the lexemes of the reading rule.
use Rattle.std.specs.Prelude.{ℕ, zero, suc, ◌+◌, ◌-◌, ◌≤◌, ◌≡◌, refl, List, [], ◌∷◌, ◌++◌, Bool, true, false, cond, ◌&&◌, length, take, drop}
use Rattle.std.proofs.Common.{arith, not-suc-le-zero, sym, ap, subst, ◌∙◌, append_assoc, length-append}
use Rattle.std.proofs.Math.Seq.{take-append_seam, drop-append_seam}
use Rattle.laws.specs.Among.{among, all}
use Rattle.reading.specs.Bytes.{word_byte, blanks, exes}
use Rattle.reading.specs.Number.{Taken, taken, unclosed, after, takes, number}
use Rattle.reading.specs.Lexeme.{Kind, Word, Number, Quoted, Blob, Variable, Operator, Mark}
use Rattle.reading.specs.Reading.{operator_byte, Start, blank, mark, quote, digits, word, variable, operator, nothing, start, closing, opened, blobbed, Read, lexeme, finish, failure, answer, read, Lexed, Cuts, ended, failed, next}
use Rattle.reader.specs.Reader.{number as number_of_lem, end, stop, GivesOf, Gives}
use Rattle.reader.specs.Splits.{splits, splits_after, takes_splits, closing_splits, blobbed_splits, number_splits}
use Rattle.reader.specs.Sorts.{blank_begins}

-- ---- no two outcomes satisfy the contract
unique_of : (x : Read) (n k s k' s' : ℕ) (r r' : List ℕ) → GivesOf x n k s r → GivesOf x n k' s' r' → (k ≡ k') × ((s ≡ s') × (r ≡ r'))
unique_of (lexeme κ w u) n k s k' s' r r' g h = (g.0 ∙ sym h.0, (omega (arith, g.1.0, h.1.0), g.1.1 ∙ sym h.1.1))
unique_of finish n k s k' s' r r' g h = (g.0 ∙ sym h.0, (g.1.0 ∙ sym h.1.0, g.1.1 ∙ sym h.1.1))
unique_of (failure u) n k s k' s' r r' g h = (g.0 ∙ sym h.0, (omega (arith, g.1.0, h.1.0), g.1.1 ∙ sym h.1.1))

pub unique : (t : List ℕ) (k s k' s' : ℕ) (r r' : List ℕ) → Gives t k s r → Gives t k' s' r' → (k ≡ k') × ((s ≡ s') × (r ≡ r'))
unique t k s k' s' r r' g h = unique_of (read t) (length t) k s k' s' r r' g h

-- ---- what is read stands in the text behind blanks, and the rest behind it
pub record Stands (v u t : List ℕ) : Type 0 where
  pub front : List ℕ
  pub blanks : all (λ b. among b blanks) front ≡ true
  pub is : front ++ (v ++ u) ≡ t

abbrev StandsIn : Read → List ℕ → Type 0
StandsIn (lexeme κ w r) t = Stands w r t
StandsIn finish t = Stands [] [] t
StandsIn (failure u) t = Stands [] u t

here : (κ : Kind) (t : List ℕ) (x : Taken) → splits x t → StandsIn (answer κ t x) t
here κ t (taken w r) h = record { front = []; blanks = refl; is = h }
here κ t unclosed h = record { front = []; blanks = refl; is = refl }

one_more : (b : ℕ) (v u t : List ℕ) → among b blanks ≡ true → Stands v u t → Stands v u (b ∷ t)
one_more b v u t e s = record { front = b ∷ s.front; blanks = rw (e, s.blanks); is = ap (λ (y : List ℕ). b ∷ y) s.is }

behind : (b : ℕ) (x : Read) (t : List ℕ) → among b blanks ≡ true → StandsIn x t → StandsIn x (b ∷ t)
behind b (lexeme κ w r) t e s = one_more b w r t e s
behind b finish t e s = one_more b [] [] t e s
behind b (failure u) t e s = one_more b [] u t e s

pub stands : (t : List ℕ) → StandsIn (read t) t
unfolding read
stands [] = record { front = []; blanks = refl; is = refl }
stands (b ∷ t) = by (start b) refl (stands t)
  where
    begun : (κ : Kind) (x : Taken) → splits x t → StandsIn (answer κ (b ∷ t) (after (b ∷ []) x)) (b ∷ t)
    begun κ x h = here κ (b ∷ t) (after (b ∷ []) x) (splits_after (b ∷ []) t x h)

    in_word : (c : Bool) → StandsIn (cond c (answer Blob (b ∷ t) (after (b ∷ []) (blobbed t))) (answer Word (b ∷ t) (after (b ∷ []) (takes word_byte t)))) (b ∷ t)
    in_word true = begun Blob (blobbed t) (blobbed_splits t)
    in_word false = begun Word (takes word_byte t) (takes_splits word_byte t)

    by : (s : Start) → start b ≡ s → StandsIn (read t) t → StandsIn (read (b ∷ t)) (b ∷ t)
    by blank e h = rw (e, read) (behind b (read t) t (blank_begins b e) h)
    by mark e h = rw (e, read) (record { front = []; blanks = refl; is = refl })
    by quote e h = rw (e, read) (begun Quoted (closing b t) (closing_splits b t))
    by digits e h = rw (e, read) (here Number (b ∷ t) (number b t) (number_splits b t))
    by word e h = rw (e, read) (in_word (among b exes && opened t))
    by variable e h = rw (e, read) (begun Variable (takes word_byte t) (takes_splits word_byte t))
    by operator e h = rw (e, read) (begun Operator (takes operator_byte t) (takes_splits operator_byte t))
    by nothing e h = rw (e, read) (record { front = []; blanks = refl; is = refl })

-- ---- the rest is the unread tail: the text from a place on
tail_of : (front v r t : List ℕ) → front ++ (v ++ r) ≡ t → drop (length t - length r) t ≡ r
tail_of front v r t e =
    let long : length ((front ++ v) ++ r) ≡ length t = ap length (append_assoc front v r ∙ e) in
    let at : length t - length r ≡ length (front ++ v) = omega (arith, length-append (front ++ v) r) in
    rw (at, ← e, ← append_assoc front v r) (drop-append_seam (front ++ v) r)

pub rest_of : (t : List ℕ) (n k s : ℕ) (r : List ℕ) (x : Read) → StandsIn x t → GivesOf x n k s r → drop (length t - length r) t ≡ r
rest_of t n k s r (lexeme κ w u) f g = rw g.1.1 (tail_of f.front w u t f.is)
rest_of t n k s r finish f g = rw g.1.1 (tail_of f.front [] [] t f.is)
rest_of t n k s r (failure u) f g = rw g.1.1 (tail_of f.front [] u t f.is)

-- ---- the loop: a call on the text, and then on what it handed back
-- the bytes of a text from a place on, up to a rest of it
abbrev pub between : List ℕ → ℕ → List ℕ → List ℕ
between t s r = take (length t - length r - s) (drop s t)

pub data Loop : List ℕ → List Lexed → List ℕ → Type 0 where
  to_the_end : {t r : List ℕ} (s : ℕ) → Gives t end s r → Loop t [] r
  to_a_failure : {t r : List ℕ} (s : ℕ) → Gives t stop s r → Loop t [] r
  on : {t r u : List ℕ} {ls : List Lexed} (s : ℕ) (κ : Kind) → Gives t (number_of_lem κ) s r → Loop r ls u → Loop t ((κ, between t s r) ∷ ls) u

-- a number of a kind is that of no other, nor of the end or a failure
pub least : (κ : Kind) → 1 ≤ number_of_lem κ
least Word = omega arith
least Number = omega arith
least Quoted = omega arith
least Blob = omega arith
least Variable = omega arith
least Operator = omega arith
least Mark = omega arith

pub most : (κ : Kind) → number_of_lem κ ≤ 7
most Word = omega arith
most Number = omega arith
most Quoted = omega arith
most Blob = omega arith
most Variable = omega arith
most Operator = omega arith
most Mark = omega arith

abbrev kind_of : ℕ → Kind
kind_of zero = Mark
kind_of (suc zero) = Word
kind_of (suc (suc zero)) = Number
kind_of (suc (suc (suc zero))) = Quoted
kind_of (suc (suc (suc (suc zero)))) = Blob
kind_of (suc (suc (suc (suc (suc zero))))) = Variable
kind_of (suc (suc (suc (suc (suc (suc zero)))))) = Operator
kind_of (suc (suc (suc (suc (suc (suc (suc n))))))) = Mark

kind_is : (κ : Kind) → κ ≡ kind_of (number_of_lem κ)
kind_is Word = refl
kind_is Number = refl
kind_is Quoted = refl
kind_is Blob = refl
kind_is Variable = refl
kind_is Operator = refl
kind_is Mark = refl

between_is : (t w r : List ℕ) (s : ℕ) → Stands w r t → s + length w + length r ≡ length t → between t s r ≡ w
between_is t w r s f e =
    let long : length f.front + (length w + length r) ≡ length t = sym (length-append f.front (w ++ r) ∙ ap (λ (k : ℕ). length f.front + k) (length-append w r)) ∙ ap length f.is in
    let at : s ≡ length f.front = omega arith in
    let many : length t - length r - length f.front ≡ length w = omega arith in
    rw (at, many, ← f.is, drop-append_seam f.front (w ++ r), take-append_seam w r)

pub told_lexeme : (κ : Kind) (t : List ℕ) (s : ℕ) (r : List ℕ) (x : Read) → StandsIn x t → GivesOf x (length t) (number_of_lem κ) s r → x ≡ lexeme κ (between t s r) r
told_lexeme κ t s r (lexeme λ' w u) f g =
    let same : κ ≡ λ' = kind_is κ ∙ ap kind_of g.0 ∙ sym (kind_is λ') in
    rw (same, g.1.1, between_is t w u s f g.1.0)
told_lexeme κ t s r finish f g = absurd (not-suc-le-zero {n = 0} (omega (arith, least κ, g.0)))
told_lexeme κ t s r (failure u) f g = absurd (not-suc-le-zero {n = 0} (omega (arith, most κ, g.0)))

fits : (x : Read) (v u t : List ℕ) → Stands v u t → length v + length u ≤ length t
fits x v u t f = omega (arith, length-append f.front (v ++ u), length-append v u, ap length f.is)

pub cuts_loop : (t : List ℕ) (ls : List Lexed) (u : List ℕ) → Cuts t ls u → Loop t ls u
cuts_loop t _ _ (ended e) = to_the_end {t = t} {r = []} (length t) (rw e (refl, (refl, refl)))
cuts_loop t _ u (failed e) =
    let f : Stands [] u t = rw e at (stands t) in
    to_a_failure {t = t} {r = u} (length t - length u) (rw e (refl, (omega (arith, fits (read t) [] u t f), refl)))
cuts_loop t _ u (next {w = w} {r = r} {κ = κ} {ls = ls} e c) =
    let f : Stands w r t = rw e at (stands t) in
    let s : ℕ = length t - length r - length w in
    let whole : s + length w + length r ≡ length t = omega (arith, fits (read t) w r t f) in
    subst (λ (v : List ℕ). Loop t ((κ, v) ∷ ls) u) (between_is t w r s f whole) (on {t = t} {r = r} s κ (rw e (refl, (whole, refl))) (cuts_loop r ls u c))
