-- 02, xi: "What it admits is rendered in the same bytes as before, and any tree the profile admits the full check admits too, with the same text,
-- edition and switch. Refusals: those of measure in their order first." And what a tree of the profile is: each record keeps to it in its place.
use Rattle.std.specs.Prelude.{ℕ, zero, suc, ◌+◌, ◌≤◌, ◌≡◌, List, [], ◌∷◌, ◌++◌, map, Bool, not, ◌&&◌, ◌||◌, ltb, drop}
use Rattle.std.proofs.Common.{arith, ◌∙◌, sym, eq-eqb, ne_eqb, eqb-true, le-ltb, ltb-false}
use Rattle.std.proofs.Math.Path.{refl, ap}
use Rattle.std.proofs.Math.Bool.{true, false, cond}
use Rattle.std.proofs.lemmas.Bool.{false≢true, eqb-false, not-false}
use Rattle.std.proofs.Math.Dec.{eqb}
use Rattle.std.proofs.Math.ListN.{length}
use Rattle.laws.specs.Among.{among, all, each}
use Rattle.laws.specs.Tests.{or_left, or_right}
use Rattle.mode.specs.declared.Mode.{Mode}
use Rattle.record.specs.Record.{record_at}
use Rattle.grammar.specs.Kind.{RUN, LIST, NONE, TEXT, NUMBER}
use Rattle.grammar.specs.Shape.{Class, one, list, one_or, small, ruled}
use Rattle.grammar.specs.Slots.{allowed}
use Rattle.std.specs.Prelude.{Result, Ok, Err, IsOk}
use Rattle.tree.specs.Check.{Admitted, Place, place, holds, ChecksIn}
use Rattle.render.specs.Render as render
use Rattle.render.specs.Render.{Outcome, text_in, output_after, MeasuresIn, RendersIn}
use Rattle.render.specs.Laws.{measures_unique}
use Rattle.render.proofs.Laws.{agree}
use Rattle.field.specs.Profile.{Verdict, foreign, first_node, takes_node, deepest, breaks, first_break, broken, Measured, or_unfit, profiled, ProfilesIn, number_of}
use Rattle.field.specs.Laws.{no_zero, length_told, checked}
use Rattle.field.specs.declared.Refusal.TheVariants.{Measure, Unfit}

-- ---- where measure refuses, its outcome is the verdict
pub as_measured : (m : Mode) (t x : List ℕ) (o : Outcome) (v : Verdict) → MeasuresIn m t x o → (render.number_of o ≡ 0 → ⊥) → ProfilesIn m t x v → v ≡ Measured o
unfolding profiled
as_measured m t x o v mm h p =
    let q : p.outcome ≡ o = measures_unique m t x p.outcome o p.measures mm in
    p.answers ∙ ap (profiled t) q ∙ by o h
  where
    by : (r : Outcome) → (render.number_of r ≡ 0 → ⊥) → profiled t r ≡ Measured r
    by (Err r) k = refl
    by (Ok n) k = absurd (k refl)

-- ---- what the profile admits
module _ {m : Mode} {t x : List ℕ} {v : Verdict} (p : ProfilesIn m t x v) (z : number_of v ≡ 0) where
  -- measure's outcome is 0, and no record breaks the profile
  pub both : (render.number_of p.outcome ≡ 0) × ((v ≡ Measured p.outcome) × IsOk (broken t))
  unfolding profiled
  both = by p.outcome (broken t) refl p.answers
    where
      by : (o : Outcome) (w : Result ℕ ℕ) → broken t ≡ w → v ≡ profiled t o → (render.number_of o ≡ 0) × ((v ≡ Measured o) × IsOk (broken t))
      by (Err r) w q e = absurd (no_zero r (sym (ap number_of e) ∙ z))
      by (Ok n) (Err i) q e = let f : v ≡ Err (Unfit i) = rw q at e in absurd (omega (arith, ap number_of f))
      by (Ok n) (Ok j) q e = (refl, (rw q at e, rw q refl))

  -- the check admits it in the same mode, with the same text
  pub check_admits : ChecksIn m t x Admitted
  check_admits = checked p.measures both.0

  -- the verdict is its length, which measure gives too
  pub measured_too : (v ≡ Measured (Ok (length (text_in m.edition t x)))) × MeasuresIn m t x (Ok (length (text_in m.edition t x)))
  measured_too =
      let l = length_told p.measures both.0 in
      (both.1.0 ∙ ap Measured l, rw l at p.measures)

  -- and where there is room for so much, render writes the tree's text and nothing beyond it
  pub rendered_too : {out out' : List ℕ} {o : Outcome} → length (text_in m.edition t x) ≤ length out → RendersIn m t x out o out'
      → (o ≡ Ok (length (text_in m.edition t x))) × (out' ≡ text_in m.edition t x ++ drop (length (text_in m.edition t x)) out)
  unfolding output_after
  rendered_too {out} {out'} {o} room r =
      let text = text_in m.edition t x in
      let done : o ≡ Ok (length text) = agree m t x out out' (Ok (length text)) o (λ n e. let q : length text ≡ n = cc in omega arith) measured_too.1 r in
      (done, rw done at r.writes)

-- ---- its records, each in its place
-- P holds of each of the n records from index i on, which fill these places as the check's scan has them
abbrev pub Each : (ℕ → Place → Type 0) → List ℕ → ℕ → ℕ → List Place → Type 0
Each P t zero i ps = Unit {0}
Each P t (suc n) i [] = Unit {0}
Each P t (suc n) i (p ∷ ps) = P i p × Each P t n (i + 1) (map (place (p.depth + 1)) (holds p.class (record_at t i)) ++ ps)

-- the record at an index keeps to the profile: it is no foreign one, it stands for no ported node if it is a RUN, and it is no deeper than 24
pub record Keeps (t : List ℕ) (i : ℕ) (p : Place) : Type 0 where
  pub own : foreign t i ≡ false
  pub no_run : (record_at t i).kind ≡ RUN → (k : ℕ) → first_node ≤ k → allowed p.class k ≡ false
  pub shallow : p.depth ≤ deepest

early_kinds : (ks : List ℕ) (k : ℕ) → not (all (λ j. ltb j first_node) ks) ≡ false → first_node ≤ k → among k ks ≡ false
early_kinds ks k h l = by (among k ks) refl
  where
    by : (b : Bool) → among k ks ≡ b → b ≡ false
    by false q = refl
    by true q = absurd (false≢true (sym (le-ltb k first_node l) ∙ each (λ j. ltb j first_node) k ks (not-false _ h) q))

takes_none : (c : Class) (k : ℕ) → takes_node c ≡ false → first_node ≤ k → allowed c k ≡ false
unfolding takes_node allowed
takes_none (one ks) k h l = early_kinds ks k h l
takes_none (list c) k h l = ne_eqb k LIST (λ e. omega arith)
takes_none (one_or ks c) k h l = rw (early_kinds ks k h l) (ne_eqb k LIST (λ e. omega arith))
takes_none small k h l = ne_eqb k NUMBER (λ e. omega arith)
takes_none (ruled u) k h l = rw (ne_eqb k NONE (λ e. omega arith)) (ne_eqb k TEXT (λ e. omega arith))

keeps : (t : List ℕ) (i : ℕ) (p : Place) → breaks t i p ≡ false → Keeps t i p
unfolding breaks
keeps t i p h =
    let run = eqb (record_at t i).kind RUN && takes_node p.class in
    let others = or_right (foreign t i) (run || ltb deepest p.depth) h in
    record {
      own = or_left (foreign t i) (run || ltb deepest p.depth) h;
      no_run = λ e k l. takes_none p.class k (rw (eq-eqb (record_at t i).kind RUN e) at (or_left run (ltb deepest p.depth) others)) l;
      shallow = ltb-false deepest p.depth (or_right run (ltb deepest p.depth) others);
    }

pub all_keep : (t : List ℕ) (n i : ℕ) (ps : List Place) → IsOk (first_break t n i ps) → Each (Keeps t) t n i ps
unfolding first_break
all_keep t zero i ps h = tt
all_keep t (suc n) i [] h = tt
all_keep t (suc n) i (p ∷ ps) h =
    let qs = map (place (p.depth + 1)) (holds p.class (record_at t i)) ++ ps in
    by qs (breaks t i p) refl h (all_keep t n (i + 1) qs)
  where
    by : (qs : List Place) (b : Bool) → breaks t i p ≡ b → IsOk (cond b (Err i) (first_break t n (i + 1) qs))
        → (IsOk (first_break t n (i + 1) qs) → Each (Keeps t) t n (i + 1) qs) → Keeps t i p × Each (Keeps t) t n (i + 1) qs
    by qs true q e rest = absurd (false≢true e)
    by qs false q e rest = (keeps t i p q, rest e)
