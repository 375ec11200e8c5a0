-- Bytes compared with a word: one length, and then byte by byte.
use Rattle.std.specs.Prelude.{ℕ, suc, ◌≡◌, refl, List, [], ◌∷◌, Bool, true, false, ◌&&◌, length, nat_eq}
use Rattle.std.proofs.Common.{ap, arith, eqb}
use Rattle.std.specs.Char.{to_ascii_uppercase}
use Rattle.std.specs.List.{zip, list_all}
use Rattle.std.proofs.lemmas.Bool.Decides.{nat_tests}
use Rattle.rowid.specs.Rowid.{upper, is_word}

-- two lengths
pub other_length : (s w : List ℕ) → (length s ≡ length w → ⊥) → false ≡ is_word s w
other_length [] [] n = absurd (n refl)
other_length [] (y ∷ w) n = refl
other_length (x ∷ s) [] n = refl
other_length (x ∷ s) (y ∷ w) n = by (eqb (upper x) y) (other_length s w (λ e. n (ap suc e)))
  where
    by : (b : Bool) → false ≡ is_word s w → false ≡ (b && is_word s w)
    by true e = e
    by false e = refl

-- a byte in capitals
upper_is : (b : ℕ) → to_ascii_uppercase b ≡ upper b
upper_is b = grind (arith, nat_tests)

-- one length: each byte against the word's
pub zipped : (s w : List ℕ) → length s ≡ length w → list_all (λ p. nat_eq (to_ascii_uppercase p.0) p.1) (zip s w) ≡ is_word s w
zipped [] [] e = refl
zipped [] (y ∷ w) e = absurd (omega arith)
zipped (x ∷ s) [] e = absurd (omega arith)
zipped (x ∷ s) (y ∷ w) e = rw (upper_is x) (ap (λ (t : Bool). nat_eq (upper x) y && t) (zipped s w (omega arith)))
