-- Laws of the walk on child records: the places of a record's children, and the way along them.
use Rattle.std.specs.Prelude.{ℕ, suc, ◌+◌, ◌-◌, ◌%◌, ◌≤◌, ◌<◌, ◌≡◌, refl, List, [], ◌∷◌, ◌++◌, map, Bool, true, false, ◌||◌, eqb, ltb, length, replicate, Ok, Err}
use Rattle.std.proofs.Common.{arith, ◌∙◌, ap, sym}
use borrow.Author.Tests.{eqb-true, eqb-false, eq-eqb, ne_eqb, ltb-true}
use Rattle.laws.specs.Tests.{and_left, and_right}
use Rattle.record.specs.Record.{record_at, count}
use Rattle.record.specs.declared.Record.{Record}
use Rattle.grammar.specs.Kind.{LIST, RUN, TOKEN}
use Rattle.grammar.specs.Shape.{Class}
use Rattle.grammar.specs.Grammar.{shape}
use Rattle.grammar.specs.Slots.{slots_of, allowed, elements}
use Rattle.grammar.specs.Classes.{classes_held, class_at, token_at, token_is}
use Rattle.grammar.specs.Packed.{kinds_held, row_of, turn, along, all_held}
use Rattle.grammar.specs.Laws.{allowed_held, list_along, list_held, slots_along, slots_held}
use Rattle.tree.specs.Check.{Admitted, Place, place, holds, fits, scan}
use Rattle.tree.specs.Laws.{token_holds}
use Rattle.tree.specs.declared.Refusal.{Refusal}
use Rattle.tree.specs.Walk.{refused, Small, Walks, met_at}
use Rattle.tree.proofs.Comes as weak
use Rattle.tree.proofs.Comes.{comes, leads, stopped}
use Rattle.tree.specs.Steps.{Along}

-- ---- the children of a record that fits
module _ (c : Class) (r : Record) (fe : fits c r ≡ true) where
  pub kids_are : r.kids ≡ length (holds c r)
  unfolding fits
  kids_are = eqb-true r.kids (length (holds c r)) (and_left (eqb r.kids (length (holds c r))) _ (and_right (allowed c r.kind) _ fe))

  nothing_held : (cs : List Class) → length cs ≡ 0 → cs ≡ []
  nothing_held [] h = refl
  nothing_held (d ∷ ds) h = absurd (omega arith)

  pub childless : r.kids ≡ 0 → holds c r ≡ []
  childless z = nothing_held (holds c r) (sym kids_are ∙ z)

pub fitting_kind : (n : ℕ) (r : Record) → n < classes_held → fits (class_at n) r ≡ true → r.kind < kinds_held
unfolding fits
fitting_kind n r h fe = allowed_held n r.kind h (and_left (allowed (class_at n) r.kind) _ fe)

pub run_holds : (c : Class) (r : Record) → r.kind ≡ RUN → holds c r ≡ replicate r.kids (class_at token_at)
unfolding holds
run_holds c r e = rw (e, token_is)

-- the row of a record that fits and is no RUN is that of its children's places
module _ (n : ℕ) (r : Record) (h : n < classes_held) (fe : fits (class_at n) r ≡ true) (no_run : r.kind ≡ RUN → ⊥) where
  list_holds : r.kind ≡ LIST → holds (class_at n) r ≡ replicate r.kids (elements (class_at n))
  unfolding holds
  list_holds e = rw (eq-eqb r.kind LIST e)

  slots_hold : (r.kind ≡ LIST → ⊥) → holds (class_at n) r ≡ slots_of (shape r.kind)
  unfolding holds
  slots_hold e = rw (ne_eqb r.kind LIST e, ne_eqb r.kind RUN no_run)

  pub slots_counted : (r.kind ≡ LIST → ⊥) → r.kids ≡ length (slots_of (shape r.kind))
  slots_counted e = rw (slots_hold e) at (kids_are (class_at n) r fe)

  pub row_holds : holds (class_at n) r ≡ along (row_of n r.kind) r.kids
  row_holds = by (eqb r.kind LIST) refl
    where
      by : (b : Bool) → eqb r.kind LIST ≡ b → holds (class_at n) r ≡ along (row_of n r.kind) r.kids
      by true e = let l = eqb-true r.kind LIST e in list_holds l ∙ sym (list_along n h r.kind l r.kids)
      by false e =
          let l = eqb-false r.kind LIST e in
          slots_hold l ∙ sym (rw (slots_counted l) (slots_along r.kind (fitting_kind n r h fe) l n))

  pub row_held : all_held (row_of n r.kind) r.kids ≡ true
  row_held = by (eqb r.kind LIST) refl
    where
      by : (b : Bool) → eqb r.kind LIST ≡ b → all_held (row_of n r.kind) r.kids ≡ true
      by true e = list_held n h r.kind (eqb-true r.kind LIST e) r.kids
      by false e =
          let l = eqb-false r.kind LIST e in
          rw (slots_counted l) (slots_held r.kind (fitting_kind n r h fe) l n)

-- in a TOKEN's place stands a TOKEN, which has no children
pub token_childless : (r : Record) → fits (class_at token_at) r ≡ true → holds (class_at token_at) r ≡ []
unfolding fits allowed
token_childless r fe =
    token_holds (class_at token_at) r
    (eqb-true r.kind TOKEN (only (eqb r.kind TOKEN) (rw token_is at (and_left (allowed (class_at token_at) r.kind) _ fe))))
  where
    only : (b : Bool) → (b || false) ≡ true → b ≡ true
    only true h = refl
    only false h = h

pub along_start : (t x : List ℕ) (i : ℕ) (ps : List Place) → i ≤ count t → Along t x i ps i ps
along_start t x i ps h = record { onward = omega arith; ended = h; is = λ rest. refl }

-- no places are filled by no records
pub nothing_walked : (t x : List ℕ) (i : ℕ) → i ≤ count t → Walks t x i [] (Ok i)
nothing_walked t x i h = record { onward = omega arith; is = λ rest. refl; ended = h; small = tt }

-- along what may stand in the places: cs is left
module _ (t x : List ℕ) (i : ℕ) (ps : List Place) (j left : ℕ) (cs : List Class) (a : Along t x i ps j (map (place (65 - left)) cs)) where
  pub row_end : cs ≡ [] → Walks t x i ps (Ok j)
  row_end e = let w = weak.row_end t x i ps j left cs (leads a) e in record { onward = a.onward; is = w.is; ended = w.ended; small = tt }

  module _ (c : Class) (ds : List Class) (split : cs ≡ c ∷ ds) where
    from_here : (rest : List Place) → scan t x (count t - j) j (place (65 - left) c ∷ (map (place (65 - left)) ds ++ rest)) ≡ scan t x (count t - i) i (ps ++ rest)
    from_here = weak.from_here t x i ps j left cs (leads a) c ds split

    -- the next place is where the walk stops
    stops : (e : Refusal) → Small e → ((qs : List Place) → scan t x (count t - j) j (place (65 - left) c ∷ qs) ≡ Err e) → Walks t x i ps (Err e)
    stops e s w = stopped (weak.stops t x i ps j left cs (leads a) c ds split e s w)

    -- in it is no record, or one with a fault; or one with none, and all below it come to w
    module _ (r : Record) (re : r ≡ record_at t j) where
      pub row_refused : count t < refused → (e : Refusal) → Err e ≡ met_at t x r j left c → Walks t x i ps (Err e)
      row_refused few e h = stopped (weak.row_refused t x i ps j left cs (leads a) c ds split r re few e h)

      module _ (z : Admitted ≡ met_at t x r j left c) (l : left ≤ 64) where
        pub row_stops : (e : Refusal) → Walks t x (j + 1) (map (place (65 - (left - 1))) (holds c r)) (Err e) → Walks t x i ps (Err e)
        row_stops e w = stopped (weak.row_stops t x i ps j left cs (leads a) c ds split r re z l e (comes w))

        pub row_filled : (k : ℕ) → Walks t x (j + 1) (map (place (65 - (left - 1))) (holds c r)) (Ok k) → Along t x i ps k (map (place (65 - left)) ds)
        row_filled k w =
            let b = weak.row_filled t x i ps j left cs (leads a) c ds split r re z l k (comes w) in
            record { onward = omega (arith, a.onward, w.onward); ended = b.ended; is = b.is }

-- the first of n that are left, and the others; and that none is left
module _ (p n : ℕ) where
  pub along_split : 0 < n → along p n ≡ class_at (p % 256) ∷ along (turn p) (n - 1)
  along_split h = let z : n ≡ suc (n - 1) = omega arith in ap (along p) z

  pub held_split : 0 < n → all_held p n ≡ true → (p % 256 < classes_held) × (all_held (turn p) (n - 1) ≡ true)
  held_split h l =
      let z : n ≡ suc (n - 1) = omega arith in
      let both = rw z at l in
      (ltb-true (p % 256) classes_held (and_left (ltb (p % 256) classes_held) _ both), and_right (ltb (p % 256) classes_held) _ both)

  pub along_none : n ≤ 0 → along p n ≡ []
  along_none h = let z : n ≡ 0 = omega arith in rw z

module _ (c : Class) (n : ℕ) where
  pub same_split : 0 < n → replicate n c ≡ c ∷ replicate (n - 1) c
  same_split h = let z : n ≡ suc (n - 1) = omega arith in ap (λ (m : ℕ). replicate m c) z

  pub same_none : n ≤ 0 → replicate n c ≡ []
  same_none h = let z : n ≡ 0 = omega arith in rw z
