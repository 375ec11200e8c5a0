-- What a walk of the tree meets in a place, against the scan by index.
use Rattle.std.specs.Prelude.{ℕ, suc, ◌+◌, ◌-◌, ◌*◌, ◌/◌, ◌%◌, ◌≤◌, ◌<◌, ◌≡◌, refl, List, [], ◌∷◌, ◌++◌, map, Bool, true, false, not, cond, eqb, leb, ltb, Result, Ok, Err, IfOk}
use Rattle.std.proofs.Common.{arith, ◌∙◌, ap, sym}
use borrow.Author.Tests.{eqb-true, eqb-false, lt-ltb, le-ltb, lt-leb, le-leb, leb-true, leb-false, ltb-false, not-false}
use Rattle.laws.specs.First.{first}
use Rattle.record.specs.Record.{record_at, count, mark_ok}
use Rattle.record.specs.declared.Record.{Record}
use Rattle.grammar.specs.Shape.{Class}
use Rattle.tree.specs.declared.Refusal.{Refusal}
use Rattle.tree.specs.declared.Refusal.TheVariants.{Malformed, TooLong, Broken, Mark, Misfit, Outside, Unclosed, NotRowid, Deep, Ends}
use Rattle.tree.specs.Check.{Answer, Admitted, number_of, place_of, Place, place, holds, fits, inside, deepest, faults_in, faults, scan_in, scan}
use Rattle.tree.specs.Walk.{refused, Small, Crosses, refusal_at, unpacked, Walks, fault_of, met_at}

-- ---- what a walk comes to, as one number
module _ (n i : ℕ) (h : i < refused) where
  taken_apart : 0 < n → unpacked (n * refused + i) ≡ Err (refusal_at n i)
  unfolding unpacked
  taken_apart p =
      let q : (n * refused + i) / refused ≡ n = omega arith in
      let m : (n * refused + i) % refused ≡ i = omega arith in
      rw (le-ltb (n * refused + i) refused (omega arith), q, m)

pub unpacked_index : (j : ℕ) → j < refused → unpacked j ≡ Ok j
unfolding unpacked
unpacked_index j h = rw (lt-ltb j refused h)

pub unpacked_refusal : (e : Refusal) → Small e → unpacked (number_of (Err e) * refused + place_of (Err e)) ≡ Err e
unpacked_refusal (Mark i) h = taken_apart 3 i h (omega arith)
unpacked_refusal (Misfit i) h = taken_apart 4 i h (omega arith)
unpacked_refusal (Outside i) h = taken_apart 5 i h (omega arith)
unpacked_refusal (Deep i) h = taken_apart 6 i h (omega arith)
unpacked_refusal (Ends i) h = taken_apart 7 i h (omega arith)
unpacked_refusal Malformed h = absurd h
unpacked_refusal TooLong h = absurd h
unpacked_refusal (Broken b) h = absurd h
unpacked_refusal (Unclosed i) h = absurd h
unpacked_refusal (NotRowid i) h = absurd h

pub small_place : (e : Refusal) → Small e → place_of (Err e) < refused
small_place (Mark i) h = h
small_place (Misfit i) h = h
small_place (Outside i) h = h
small_place (Deep i) h = h
small_place (Ends i) h = h
small_place Malformed h = absurd h
small_place TooLong h = absurd h
small_place (Broken b) h = absurd h
small_place (Unclosed i) h = absurd h
small_place (NotRowid i) h = absurd h

pub crosses : {t x : List ℕ} {i : ℕ} {ps : List Place} (w : Result ℕ Refusal) → count t < refused → Walks t x i ps w → Crosses w
crosses (Ok j) h w = omega (arith, w.ended)
crosses (Err e) h w = w.small

-- ---- four tests in a row
module _ (m f o d : Bool) (i : ℕ) where
  abbrev answers : Answer → Answer
  answers other = first ((m, Err (Mark i)) ∷ (f, Err (Misfit i)) ∷ (o, Err (Outside i)) ∷ (d, Err (Deep i)) ∷ []) other

some : (m f o d : Bool) (i : ℕ) (e : Refusal) (other : Answer) → Err e ≡ answers m f o d i Admitted → answers m f o d i other ≡ Err e
some true f o d i e other h = sym h
some false true o d i e other h = sym h
some false false true d i e other h = sym h
some false false false true i e other h = sym h
some false false false false i e other h = absurd (cc)

none : (m f o d : Bool) (i : ℕ) → Admitted ≡ answers m f o d i Admitted → (f ≡ false) × ((d ≡ false) × ((other : Answer) → answers m f o d i other ≡ other))
none true f o d i h = absurd (cc)
none false true o d i h = absurd (cc)
none false false true d i h = absurd (cc)
none false false false true i h = absurd (cc)
none false false false false i h = (refl, (refl, λ other. refl))

few : (k m f o d : Bool) (i : ℕ) (e : Refusal) → i < refused → Err e ≡ cond k (Err (Ends i)) (answers m f o d i Admitted) → Small e
few true m f o d i e h q = let z : e ≡ Ends i = cc in rw z h
few false true f o d i e h q = let z : e ≡ Mark i = cc in rw z h
few false false true o d i e h q = let z : e ≡ Misfit i = cc in rw z h
few false false false true d i e h q = let z : e ≡ Outside i = cc in rw z h
few false false false false true i e h q = let z : e ≡ Deep i = cc in rw z h
few false false false false false i e h q = absurd (cc)

-- ---- at a record that is there, the scan looks at its faults, and goes on with its children's places
depthless : (left : ℕ) → eqb left 0 ≡ ltb deepest (65 - left)
depthless left = by (eqb left 0) refl
  where
    by : (b : Bool) → eqb left 0 ≡ b → eqb left 0 ≡ ltb deepest (65 - left)
    by true e = let z = eqb-true left 0 e in e ∙ sym (lt-ltb deepest (65 - left) (omega arith))
    by false e = let z = eqb-false left 0 e in e ∙ sym (le-ltb deepest (65 - left) (omega arith))

module _ (x : List ℕ) (r : Record) (i left : ℕ) (c : Class) where
  found_is : fault_of x r i left (fits c r) ≡ answers (not (mark_ok r)) (not (fits c r)) (not (inside x r)) (ltb deepest (65 - left)) i Admitted
  unfolding fault_of
  found_is = rw (depthless left)

  first_fault : (e : Refusal) → Err e ≡ fault_of x r i left (fits c r) → (other : Answer) → first (faults x r i (place (65 - left) c)) other ≡ Err e
  unfolding faults_in
  first_fault e h other = some (not (mark_ok r)) (not (fits c r)) (not (inside x r)) (ltb deepest (65 - left)) i e other (h ∙ found_is)

  module _ (z : Admitted ≡ fault_of x r i left (fits c r)) where
    passed : (not (fits c r) ≡ false) × ((ltb deepest (65 - left) ≡ false) × ((other : Answer) → answers (not (mark_ok r)) (not (fits c r)) (not (inside x r)) (ltb deepest (65 - left)) i other ≡ other))
    passed = none (not (mark_ok r)) (not (fits c r)) (not (inside x r)) (ltb deepest (65 - left)) i (z ∙ found_is)

    pub fine_fits : fits c r ≡ true
    fine_fits = not-false (fits c r) passed.0

    pub fine_left : 1 ≤ left
    fine_left = omega (arith, ltb-false deepest (65 - left) passed.1.0)

    faultless : (other : Answer) → first (faults x r i (place (65 - left) c)) other ≡ other
    unfolding faults_in
    faultless other = passed.1.1 other

-- ---- the ways through a walk of one record
module _ (t x : List ℕ) (i : ℕ) (p : Place) where
  nothing_there : count t ≤ i → (ps : List Place) → scan t x (count t - i) i (p ∷ ps) ≡ Err (Ends i)
  unfolding scan_in
  nothing_there h ps = let e : count t - i ≡ 0 = omega arith in rw e

  one_step : i < count t → (rest : List Place)
      → scan t x (count t - i) i (p ∷ rest)
      ≡ first (faults x (record_at t i) i p) (scan t x (count t - (i + 1)) (i + 1) (map (place (p.depth + 1)) (holds p.class (record_at t i)) ++ rest))
  unfolding scan_in
  one_step there rest = let e : count t - i ≡ suc (count t - (i + 1)) = omega arith in rw e

module _ (t x : List ℕ) (r : Record) (i left : ℕ) (c : Class) where
  pub met_past : count t ≤ i → Err (Ends i) ≡ met_at t x r i left c
  unfolding met_at
  met_past h = rw (le-leb (count t) i h)

  pub met_there : i < count t → (a : Answer) → a ≡ fault_of x r i left (fits c r) → a ≡ met_at t x r i left c
  unfolding met_at
  met_there h a e = rw (lt-leb (count t) i h) e

  pub met_small : (e : Refusal) → i < refused → Err e ≡ met_at t x r i left c → Small e
  unfolding met_at fault_of
  met_small e h q = few (leb (count t) i) (not (mark_ok r)) (not (fits c r)) (not (inside x r)) (eqb left 0) i e h q

  -- no fault is met
  module _ (z : Admitted ≡ met_at t x r i left c) where
    pub there : i < count t
    unfolding met_at
    there = by (leb (count t) i) refl
      where
        by : (b : Bool) → leb (count t) i ≡ b → i < count t
        by true q = let w = rw q at z in absurd (cc)
        by false q = leb-false (count t) i q

    met_none : Admitted ≡ fault_of x r i left (fits c r)
    unfolding met_at
    met_none = rw (lt-leb (count t) i there) at z

    pub met_fits : fits c r ≡ true
    met_fits = fine_fits x r i left c met_none

    pub met_left : 1 ≤ left
    met_left = fine_left x r i left c met_none

  module _ (re : r ≡ record_at t i) where
    step : i < count t → (rest : List Place)
        → scan t x (count t - i) i (place (65 - left) c ∷ rest)
        ≡ first (faults x r i (place (65 - left) c)) (scan t x (count t - (i + 1)) (i + 1) (map (place (65 - left + 1)) (holds c r) ++ rest))
    step h rest = rw re (one_step t x i (place (65 - left) c) h rest)

    -- a refusal that is met is the answer, whatever places follow
    pub met_stops : (e : Refusal) → Err e ≡ met_at t x r i left c → (ps : List Place) → scan t x (count t - i) i (place (65 - left) c ∷ ps) ≡ Err e
    unfolding met_at
    met_stops e h ps = by (leb (count t) i) refl
      where
        by : (b : Bool) → leb (count t) i ≡ b → scan t x (count t - i) i (place (65 - left) c ∷ ps) ≡ Err e
        by true q = nothing_there t x i (place (65 - left) c) (leb-true (count t) i q) ps ∙ sym (rw q at h)
        by false q = step (leb-false (count t) i q) ps ∙ first_fault x r i left c e (rw q at h) _

    -- behind a record with no fault come its children
    module _ (z : Admitted ≡ met_at t x r i left c) (l : left ≤ 64) where
      pub goes_on : (ps : List Place)
          → scan t x (count t - i) i (place (65 - left) c ∷ ps)
          ≡ scan t x (count t - (i + 1)) (i + 1) (map (place (65 - (left - 1))) (holds c r) ++ ps)
      goes_on ps =
          let one_left = met_left z in
          let d : 65 - left + 1 ≡ 65 - (left - 1) = omega arith in
          step (there z) ps
          ∙ faultless x r i left c (met_none z) _
          ∙ ap (λ (n : ℕ). scan t x (count t - (i + 1)) (i + 1) (map (place n) (holds c r) ++ ps)) d

      back : (w : Result ℕ Refusal) → IfOk w (λ j. i + 1 ≤ j) → IfOk w (λ j. i ≤ j)
      back (Ok j) h = omega (arith, h)
      back (Err e) h = tt

      pub down : (w : Result ℕ Refusal) → Walks t x (i + 1) (map (place (65 - (left - 1))) (holds c r)) w → Walks t x i (place (65 - left) c ∷ []) w
      down w b = record { onward = back w b.onward; is = λ rest. goes_on rest ∙ b.is rest; ended = b.ended; small = b.small }
