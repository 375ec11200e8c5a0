-- What follows of texts: how they are put together and taken apart, that the check's answer is the only right one,
-- and that on a text the boundaries are the ends of the texts that begin it. Assumes nothing.
use Rattle.std.specs.Prelude.{ℕ, ◌+◌, ◌-◌, ◌≤◌, ◌<◌, ◌≡◌, refl, List, ◌++◌, Bool, true, false, ◌↔◌, ltb, length, take, drop, get_or}
use Rattle.std.proofs.Common.{◌∙◌, ap, sym, append_assoc, add-zero, arith, length-append, length-drop, take-append-drop, take-add, get_or-append-add, get_or-drop, length-take-le, ltb-true, ltb-false}
use Rattle.std.proofs.Math.ListN.{get_or-append}
use Rattle.std.proofs.Math.Seq.{take-nil, take-append-add}
use Rattle.utf8.specs.Rfc3629.{Tail, Char, Text, none, more, Longest, boundary}
use Rattle.utf8.specs.Characters.{NoChar, char_length, char_lead, char_inner}
use Rattle.utf8.proofs.Characters.{char_rest}
use Rattle.utf8.specs.Laws.{text_first, Between, boundary_between, between_boundary}

-- ---- taken apart

text_after_char : {c : List ℕ} → Char c → (t : List ℕ) → {y : List ℕ} → Text y → y ≡ c ++ t → Text t
text_after_char {c} h t none e = absurd (omega (arith, char_length h, length-append c t, ap length e))
text_after_char h t (more {c = d} {s = s} k r) e = rw (char_rest k h s t e) at r

-- what follows a text in a text is a text
pub text_rest : {a : List ℕ} → Text a → (b : List ℕ) → Text (a ++ b) → Text b
text_rest none b k = k
text_rest (more {c} {s} h r) b k = text_rest r b (text_after_char h (s ++ b) k (append_assoc c s b))

no_char_take : (k : ℕ) (s : List ℕ) → NoChar s → NoChar (take k s)
no_char_take k s n c t h e = n c (t ++ drop k s) h (sym (take-append-drop k s) ∙ ap (λ (l : List ℕ). l ++ drop k s) e ∙ append_assoc c t (drop k s))

-- where a text ends and no character begins, the longest text ends
pub longest_here : (s : List ℕ) (i : ℕ) → i < length s → Text (take i s) → NoChar (drop i s) → Longest s i
longest_here s i h k n = record { within = omega arith; text = k; last = last }
  where
    last : (q : ℕ) → i < q → q ≤ length s → Text (take q s) → ⊥
    last q l m t =
        let e : i + (q - i) ≡ q = omega arith in
        let t' : Text (take i s ++ take (q - i) (drop i s)) = rw (← take-add i (q - i) s, e) t in
        let z : q - i ≤ length (drop i s) = rw (length-drop i s) (omega arith) in
        text_first (text_rest k (take (q - i) (drop i s)) t') (no_char_take (q - i) (drop i s) n)
        (rw (length-take-le (q - i) (drop i s) z) (omega arith))

-- inside a character every byte is a tail, so a place that has none is at its start or past it
between_text : {s : List ℕ} → Text s → (p : ℕ) → p ≤ length s → Between s p → Text (take p s)
between_text none p l b = rw (take-nil p) none
between_text (more {c} {s} h r) p l b = go (ltb 0 p) (ltb p (length c)) refl refl (λ q m n. between_text r q m n)
  where
    go : (x y : Bool) → ltb 0 p ≡ x → ltb p (length c) ≡ y → ((q : ℕ) → q ≤ length s → Between s q → Text (take q s)) → Text (take p (c ++ s))
    go false y e f rest = let z : p ≡ 0 = omega (arith, ltb-false 0 p e) in rw z none
    go true true e f rest =
        let k = ltb-true p (length c) f in
        absurd (b (omega (arith, length-append c s)) (rw (get_or-append c s 0 p k) (char_inner h p (ltb-true 0 p e) k)))
    go true false e f rest = past (p - length c) (omega (arith, ltb-false p (length c) f))
      where
        past : (q : ℕ) → p ≡ length c + q → Text (take p (c ++ s))
        past q z =
            rw (z, take-append-add c s q)
            (more h (rest q (omega (arith, length-append c s)) (λ k t. b (omega (arith, length-append c s)) (rw (z, get_or-append-add c s q 0) t))))

text_between : {s : List ℕ} → Text s → (p : ℕ) → Text (take p s) → Between s p
text_between {s} t p k h x =
    let r : Text (drop p s) = text_rest k (drop p s) (rw (take-append-drop p s) t) in
    first r (rw (length-drop p s) (omega arith)) (rw (get_or-drop p s 0 0, add-zero p) x)
  where
    first : {y : List ℕ} → Text y → 0 < length y → Tail (get_or y 0 0) → ⊥
    first none l z = omega arith
    first (more {c} {s} k r) l z = char_lead k s z

-- a place of a text is a boundary exactly if a text ends there
pub boundary_text : {s : List ℕ} → Text s → (p : ℕ) → p ≤ length s → (boundary s p ≡ true) ↔ Text (take p s)
boundary_text {s} t p l =
    (λ e. between_text t p l (boundary_between s p e), λ k. between_boundary s p l (text_between t p k))
