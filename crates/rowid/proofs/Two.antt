-- The two parts: their number, their places within the text, and what each of them is.
use Rattle.std.specs.Prelude.{ℕ, ◌+◌, ◌≤◌, ◌≡◌, refl, List, [], ◌∷◌, Bool, false, ◌&&◌, length, take, drop, Option, Some, None, slice_get}
use Rattle.std.proofs.Common.{arith, sym, ◌∙◌}
use Rattle.std.proofs.lemmas.Option.{get_or_from_slice_get}
use Rattle.laws.specs.Text.{ascii}
use Rattle.white.specs.Parts.{Span, span, parts, first, second, split_of, first_of}
use Rattle.white.specs.Apart.{within}
use Rattle.white.specs.declared.Parts.{Parts}
use Rattle.white.specs.declared.Part.{Part}
use Rattle.rowid.specs.Rowid.{is_word, part_is, are_the_two, names}

-- there are not two
no_first : (x : List ℕ) (ps : List Span) → slice_get ps 0 ≡ None → false ≡ are_the_two x ps
no_first x [] n = refl
no_first x (p ∷ ps) n = cc

no_second : (x : List ℕ) (ps : List Span) → slice_get ps 1 ≡ None → false ≡ are_the_two x ps
no_second x [] n = refl
no_second x (p ∷ []) n = refl
no_second x (p ∷ q ∷ ps) n = cc

not_these : (x : List ℕ) (ps : List Span) → (length ps ≡ 2 → ⊥) → false ≡ are_the_two x ps
not_these x [] n = refl
not_these x (p ∷ []) n = refl
not_these x (p ∷ q ∷ []) n = absurd (n refl)
not_these x (p ∷ q ∷ r ∷ ps) n = refl

these : (x : List ℕ) (ps : List Span) → length ps ≡ 2 → part_is x (first ps) "WITHOUT" && part_is x (second ps) "ROWID" ≡ are_the_two x ps
these x [] e = let no : ⊥ = omega arith in absurd no
these x (p ∷ []) e = let no : ⊥ = omega arith in absurd no
these x (p ∷ q ∷ []) e = refl
these x (p ∷ q ∷ r ∷ ps) e = let no : ⊥ = omega arith in absurd no

-- as the calls say it
pub without_first : (x : List ℕ) (r : Option Part) → r ≡ first_of x → r ≡ None → false ≡ names x
unfolding names first_of
without_first x r is n = no_first x (parts x) (sym is ∙ n)

module _ (x : List ℕ) (m : Parts) (is : m ≡ split_of x) where
  pub without_second : m.second ≡ None → false ≡ names x
  unfolding names split_of
  without_second n = no_second x (parts x) (rw is at n)

  pub not_two : (m.count ≡ 2 → ⊥) → false ≡ names x
  unfolding names split_of
  not_two n = not_these x (parts x) (λ e. n (rw is e))

pub first_within : (x : List ℕ) (r : Option Part) (f : Part) → r ≡ first_of x → r ≡ Some f → f.start + f.len ≤ length x
unfolding first_of
first_within x r f is n = rw (get_or_from_slice_get (parts x) 0 f (span 0 0) (sym is ∙ n)) at (within x 0)

pub second_within : (x : List ℕ) (m : Parts) (g : Part) → m ≡ split_of x → m.second ≡ Some g → g.start + g.len ≤ length x
unfolding split_of
second_within x m g is n = rw (get_or_from_slice_get (parts x) 1 g (span 0 0) (rw is at n)) at (within x 1)

pub two : (x : List ℕ) (m : Parts) (r : Option Part) (f g : Part) (a b : Bool) → m ≡ split_of x → r ≡ first_of x → r ≡ Some f → m.second ≡ Some g → m.count ≡ 2
    → a ≡ is_word (take f.len (drop f.start x)) (ascii "WITHOUT") → b ≡ is_word (take g.len (drop g.start x)) (ascii "ROWID") → a && b ≡ names x
unfolding names split_of first_of
two x m r f g a b is it j k n p q =
    rw (p, q)
    (rw (get_or_from_slice_get (parts x) 0 f (span 0 0) (sym it ∙ j), get_or_from_slice_get (parts x) 1 g (span 0 0) (rw is at k)) at (these x (parts x) (rw is at n)))
