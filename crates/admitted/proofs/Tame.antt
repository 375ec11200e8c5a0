-- What the grammar must say for the walk and the check to go along the same records, computed over its entries: slots are held whatever the
-- flags are, what may be left out is one child, and a LIST is written only where it is a LIST that is held.
use Rattle.std.specs.Prelude.{ℕ, ◌≡◌, refl, List, [], ◌∷◌, Bool, true, false, not, ◌||◌, eqb, length}
use Rattle.std.proofs.Common.{arith, eqb-true}
use Rattle.std.proofs.lemmas.Bool.{false≢true, not-true}
use Rattle.std.proofs.Math.Bool.{or-true}
use Rattle.laws.specs.Among.{each as each-among}
use Rattle.laws.specs.Tests.{and_left, and_right}
use Rattle.grammar.specs.Kind.{NONE, LIST, RUN, TEXT, NUMBER}
use Rattle.grammar.specs.Shape.{Class, one, list, one_or, small, ruled}
use Rattle.grammar.specs.Grammar.{shape}
use Rattle.grammar.specs.Slots.{slots_of, allowed}
use Rattle.grammar.specs.Packed.{same_class}
use Rattle.grammar.specs.Laws.{same_all}
use Rattle.grammar.specs.Entries.{entry}
use Rattle.admitted.specs.Tame.{barren, barren_place, plain, tame}

-- all entries but a RUN's, which holds TOKENs and no slots
pub tamed : (k : ℕ) → eqb k RUN ≡ false → tame (shape k) ≡ true
unfolding tame plain slots_of same_all same_class
tamed k n = rw n at (entry (λ m s. eqb m RUN || tame s) k (or-true (eqb k RUN)) refl)

pub no_list : (c : Class) (k : ℕ) → plain c ≡ true → allowed c k ≡ true → eqb k LIST ≡ false
unfolding plain allowed
no_list (one ks) k p h = not-true (eqb k LIST) (each-among (λ m. not (eqb m LIST)) k ks p h)
no_list (list c) k p h = absurd (false≢true p)
no_list (one_or ks c) k p h = absurd (false≢true p)
no_list small k p h = absurd (false≢true p)
no_list (ruled u) k p h = absurd (false≢true p)

pub barren_kind : (c : Class) (k : ℕ) → barren_place c ≡ true → allowed c k ≡ true → barren k ≡ true
unfolding barren_place allowed
barren_kind (one ks) k p h = each-among barren k ks p h
barren_kind (list c) k p h = absurd (false≢true p)
barren_kind (one_or ks c) k p h = absurd (false≢true p)
barren_kind small k p h = rw (eqb-true k NUMBER h) p
barren_kind (ruled u) k p h = by (eqb k NONE) refl h
  where
    by : (b : Bool) → eqb k NONE ≡ b → (b || eqb k TEXT) ≡ true → barren k ≡ true
    by true q y = rw (eqb-true k NONE q) (and_left (barren NONE) (barren TEXT) p)
    by false q y = rw (eqb-true k TEXT y) (and_right (barren NONE) (barren TEXT) p)

-- no slots
pub none_held : (cs : List Class) → length cs ≡ 0 → cs ≡ []
none_held [] h = refl
none_held (d ∷ ds) h = absurd (omega arith)
