-- The check's scan, from an index on: the records that are left fill the places that are still to be filled.
-- If they do, the record at the index stands in the first place with no fault, and those behind it fill its children's places and the others.
-- With no place left, the index is the tree's end.
use Rattle.std.specs.Prelude.{ℕ, zero, suc, ◌+◌, ◌-◌, ◌<◌, ◌≡◌, refl, List, [], ◌∷◌, Bool, true, false, not, cond, ◌&&◌, eqb, ltb, length, replicate, Ok, Err}
use native.Mathlib.Omega.{arith}
use Rattle.std.proofs.Common.{sym, eqb-true, ltb-false}
use Rattle.std.proofs.lemmas.Bool.{false≢true, not-false}
use Rattle.laws.specs.First.{first}
use Rattle.laws.specs.Tests.{and_left}
use Rattle.utf8.specs.Rfc3629.{Encoding}
use Rattle.record.specs.Record.{count, mark_ok}
use Rattle.record.specs.declared.Record.{Record}
use Rattle.grammar.specs.Kind.{NONE, LIST, TOKEN, RUN}
use Rattle.grammar.specs.Shape.{Class, one}
use Rattle.grammar.specs.Grammar.{root, shape}
use Rattle.grammar.specs.Slots.{slots_of, allowed, elements}
use Rattle.tree.specs.Check.{Answer, Admitted, Place, place, holds, fits, inside, faults_in, scan_in, scan, deepest, malformed, longest, or_broken, answer_in, Checks}
use Rattle.tree.specs.declared.Refusal.TheVariants.{Malformed, TooLong, Mark, Misfit, Outside, Deep}
use Rattle.tokens.specs.Tokens.{Source, at, behind}
use Rattle.admitted.specs.Tame.{barren, slots, barren_place}
use Rattle.admitted.proofs.Tame.{barren_kind, none_held}
use Rattle.admitted.specs.Fills.{Filled, Fills}

no_fault : (m f o d : Bool) (i : ℕ) (a : Answer) → first ((m, Err (Mark i)) ∷ (f, Err (Misfit i)) ∷ (o, Err (Outside i)) ∷ (d, Err (Deep i)) ∷ []) a ≡ Admitted
    → (f ≡ false) × (d ≡ false) × (a ≡ Admitted)
no_fault true f o d i a h = absurd (cc)
no_fault false true o d i a h = absurd (cc)
no_fault false false true d i a h = absurd (cc)
no_fault false false false true i a h = absurd (cc)
no_fault false false false false i a h = (refl, refl, h)

pub fill : {e : Source} {j d : ℕ} {c : Class} {ps : List Place} → Fills e (place d c ∷ ps) j → Filled e d c ps j
unfolding scan_in faults_in
fill {e} {j} {d} {c} {ps} h = by (count e.tree - j) refl h.admits
  where
    r : Record
    r = at e j

    by : (n : ℕ) → count e.tree - j ≡ n → scan e.tree e.text n j (place d c ∷ ps) ≡ Admitted → Filled e d c ps j
    by zero q a = absurd (cc)
    by (suc n) q a =
        let p = no_fault (not (mark_ok r)) (not (fits c r)) (not (inside e.text r)) (ltb deepest d) j _ a in
        let m : n ≡ count e.tree - (j + 1) = omega arith in
        record {
          there = omega arith;
          fit = not-false (fits c r) p.0;
          near = ltb-false deepest d p.1;
          on = record { within = omega arith; admits = rw m at p.2 };
        }

-- no place is left at the end of the tree alone
pub at_end : {e : Source} {j : ℕ} → Fills e [] j → j ≡ count e.tree
unfolding scan_in
at_end {e} {j} h = by (count e.tree - j) refl h.admits
  where
    by : (n : ℕ) → count e.tree - j ≡ n → scan e.tree e.text n j [] ≡ Admitted → j ≡ count e.tree
    by zero q a = omega (arith, h.within)
    by (suc n) q a = absurd (cc)

pub fit_allowed : (c : Class) (r : Record) → fits c r ≡ true → allowed c r.kind ≡ true
unfolding fits
fit_allowed c r f = and_left (allowed c r.kind) _ f

-- the kind of a record that is in its place may stand there
pub stands : {e : Source} {j d : ℕ} {c : Class} {ps : List Place} → Fills e (place d c ∷ ps) j → allowed c (at e j).kind ≡ true
stands {e} {j} {c = c} h = fit_allowed c (at e j) (fill h).fit

-- ---- what a record holds
barren_holds : (c : Class) (r : Record) → barren r.kind ≡ true → holds c r ≡ []
unfolding holds
barren_holds c r h = by (eqb r.kind LIST) (eqb r.kind RUN) h
  where
    by : (a b : Bool) → not a && (not b && slots 0 (shape r.kind)) ≡ true
        → cond a (replicate r.kids (elements c)) (cond b (replicate r.kids (one (TOKEN ∷ []))) (slots_of (shape r.kind))) ≡ []
    by true b q = absurd (false≢true q)
    by false true q = absurd (false≢true q)
    by false false q = none_held (slots_of (shape r.kind)) (eqb-true (length (slots_of (shape r.kind))) 0 q)

pub none_holds : (c : Class) (r : Record) → eqb r.kind NONE ≡ true → holds c r ≡ []
unfolding shape slots_of
none_holds c r q = barren_holds c r (rw (eqb-true r.kind NONE q))

pub run_holds : (c : Class) (r : Record) → eqb r.kind LIST ≡ false → eqb r.kind RUN ≡ true → holds c r ≡ replicate r.kids (one (TOKEN ∷ []))
unfolding holds
run_holds c r q z = rw (q, z)

pub slots_hold : (c : Class) (r : Record) → eqb r.kind LIST ≡ false → eqb r.kind RUN ≡ false → holds c r ≡ slots_of (shape r.kind)
unfolding holds
slots_hold c r q z = rw (q, z)

-- ---- past a record without children
module _ (e : Source) where
  pub behind_there : (j : ℕ) → j < count e.tree → behind e j ≡ j + 1
  unfolding behind
  behind_there j h = omega arith

  pub past_childless : {j d : ℕ} {c : Class} {ps : List Place} → Filled e d c ps j → holds c (at e j) ≡ [] → Fills e ps (behind e j)
  past_childless {j} f z = rw (behind_there j f.there) (rw z at f.on)

  pub past_leaf : {d : ℕ} {c : Class} {ps : List Place} → barren_place c ≡ true → (j : ℕ) → Fills e (place d c ∷ ps) j → Fills e ps (behind e j)
  past_leaf {c = c} b j h = past_childless (fill h) (barren_holds c (at e j) (barren_kind c (at e j).kind b (stands h)))

-- ---- a tree that the check admits
early : (m l : Bool) (e : Encoding) (a : Answer) → first ((m, Err Malformed) ∷ (l, Err TooLong) ∷ []) (or_broken e a) ≡ Admitted → a ≡ Admitted
early true l e a h = absurd (cc)
early false true e a h = absurd (cc)
early false false (Err b) a h = absurd (cc)
early false false (Ok u) a h = h

pub root_filled : (e : Source) → Checks e.tree e.text Admitted → Fills e (place 1 root ∷ []) 0
unfolding answer_in
root_filled e h =
    let c = h.encoding in
    let z : count e.tree - 0 ≡ count e.tree = omega arith in
    record {
      within = omega arith;
      admits = rw z (early (malformed e.tree) (ltb longest (length e.text)) c _ (sym h.answers));
    }
