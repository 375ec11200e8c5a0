-- What follows of texts: how they are put together and taken apart, that the check's answer is the only right one,
-- and that on a text the boundaries are the ends of the texts that begin it. Assumes nothing.
use Rattle.std.specs.Prelude.{ℕ, ◌≤◌, ◌<◌, ◌≡◌, refl, List, ◌++◌, Bool, true, false, not, ◌&&◌, ◌||◌, ◌↔◌, ltb, eqb, length, drop, get_or, Ok, Err}
use Rattle.std.proofs.Common.{ap, append_assoc, append-nil, arith, lt-ltb, ltb-true, ltb-false, eq-eqb, ne_eqb}
use Rattle.std.proofs.Math.Seq.{take-length}
use Rattle.utf8.specs.declared.Broken.{Broken}
use Rattle.utf8.specs.declared.Broken.TheVariants.{Bad, Cut}
use Rattle.utf8.specs.Rfc3629.{Tail, Char, Text, none, more, Begins, Ends, Encoding, Encoded, number, place, tail, boundary}
use Rattle.utf8.specs.Characters.{NoChar, tail_true, true_tail}

-- ---- put together

pub text_append : {a b : List ℕ} → Text a → Text b → Text (a ++ b)
text_append none k = k
text_append {b = b} (more {c} {s} h r) k = rw (append_assoc c s b) (more h (text_append r k))

pub text_char : {c : List ℕ} → Char c → Text c
text_char {c} h = rw append-nil at (more h none)

-- a text that is not empty begins with a character
pub text_first : {s : List ℕ} → Text s → NoChar s → 0 < length s → ⊥
text_first none n h = omega arith
text_first (more {c} {s} k r) n h = n c s k refl

-- ---- no two answers are right

ends_not_text : (s : List ℕ) (p : ℕ) → Ends s p → Text s → ⊥
ends_not_text s p h t = h.1.last (length s) h.0 (omega arith) (rw (take-length s) t)

ends_unique : (s : List ℕ) (p q : ℕ) → Ends s p → Ends s q → p ≡ q
ends_unique s p q h k = go (ltb p q) (ltb q p) refl refl
  where
    go : (a b : Bool) → ltb p q ≡ a → ltb q p ≡ b → p ≡ q
    go true b e f = absurd (h.1.last q (ltb-true p q e) k.1.within k.1.text)
    go false true e f = absurd (k.1.last p (ltb-true q p f) h.1.within h.1.text)
    go false false e f = omega (arith, ltb-false p q e, ltb-false q p f)

-- from one place the bytes to the end are a proper beginning of a character, or not
one_way : (s : List ℕ) (p q : ℕ) → Ends s p → (Begins (drop p s) → ⊥) → Ends s q → Begins (drop q s) → ⊥
one_way s p q h n k b = n (rw (ends_unique s p q h k) b)

pub encoded_unique : (s : List ℕ) (a b : Encoding) → Encoded s a → Encoded s b → a ≡ b
encoded_unique s (Ok _) (Ok _) h k = refl
encoded_unique s (Ok _) (Err (Bad q)) h k = absurd (ends_not_text s q k.0 h)
encoded_unique s (Ok _) (Err (Cut q)) h k = absurd (ends_not_text s q k.0 h)
encoded_unique s (Err (Bad p)) (Ok _) h k = absurd (ends_not_text s p h.0 k)
encoded_unique s (Err (Bad p)) (Err (Bad q)) h k = ap (λ (x : ℕ). Err (Bad x)) (ends_unique s p q h.0 k.0)
encoded_unique s (Err (Bad p)) (Err (Cut q)) h k = absurd (one_way s p q h.0 h.1 k.0 k.1)
encoded_unique s (Err (Cut p)) (Ok _) h k = absurd (ends_not_text s p h.0 k)
encoded_unique s (Err (Cut p)) (Err (Bad q)) h k = absurd (one_way s q p k.0 k.1 h.0 h.1)
encoded_unique s (Err (Cut p)) (Err (Cut q)) h k = ap (λ (x : ℕ). Err (Cut x)) (ends_unique s p q h.0 k.0)

-- for callers, who do not go by the cases of the answer: its number is small, and its place within the bytes
pub number_small : (e : Encoding) → number e < 16
number_small (Ok _) = omega arith
number_small (Err (Bad p)) = omega arith
number_small (Err (Cut p)) = omega arith

pub place_within : (s : List ℕ) (e : Encoding) → Encoded s e → place e ≤ length s
place_within s (Ok _) h = omega arith
place_within s (Err (Bad p)) h = omega (arith, h.0.0)
place_within s (Err (Cut p)) h = omega (arith, h.0.0)

-- its number is not 0 where the bytes are broken, in whatever way
pub number_broken : (b : Broken) → number (Err b) ≡ 0 → ⊥
number_broken (Bad p) z = omega arith
number_broken (Cut p) z = omega arith

-- the answer's number says whether the bytes are a text
pub number_text : (s : List ℕ) (r : Encoding) → Encoded s r → (number r ≡ 0) ↔ Text s
number_text s (Ok _) h = (λ e. h, λ t. refl)
number_text s (Err (Bad p)) h = (λ e. absurd (omega arith), λ t. absurd (ends_not_text s p h.0 t))
number_text s (Err (Cut p)) h = (λ e. absurd (omega arith), λ t. absurd (ends_not_text s p h.0 t))

-- ---- boundaries

not_tail : (x : ℕ) → (Tail x → ⊥) → tail x ≡ false
not_tail x h = go (tail x) refl
  where
    go : (b : Bool) → tail x ≡ b → b ≡ false
    go true e = absurd (h (true_tail x e))
    go false e = refl

-- what the test of a place says: no tail stands there
abbrev pub Between : List ℕ → ℕ → Type 0
Between s p = p < length s → Tail (get_or s p 0) → ⊥

pub boundary_between : (s : List ℕ) (p : ℕ) → boundary s p ≡ true → Between s p
unfolding boundary
boundary_between s p e h t =
    let z : false ≡ true = rw (ne_eqb p (length s) (λ d. omega arith), lt-ltb p (length s) h, tail_true (get_or s p 0) t) at e in
    let y : ◌≡◌ {A = ℕ} 0 1 = cc in
    omega arith

pub between_boundary : (s : List ℕ) (p : ℕ) → p ≤ length s → Between s p → boundary s p ≡ true
unfolding boundary
between_boundary s p l b = go (ltb p (length s)) refl
  where
    go : (q : Bool) → ltb p (length s) ≡ q → eqb p (length s) || (ltb p (length s) && not (tail (get_or s p 0))) ≡ true
    go true e =
        let h = ltb-true p (length s) e in
        rw (ne_eqb p (length s) (λ d. omega arith), e, not_tail (get_or s p 0) (b h))
    go false e = rw (eq-eqb p (length s) (omega (arith, ltb-false p (length s) e)))
