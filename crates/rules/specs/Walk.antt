-- The walk over sound records. `Reached` says that 01's scan finds the records from an index up to an end sound; so each of them fits its place, and
-- the walk may go by its children. `Goes` says what the walk has come to so far: what is left to be looked at leads to the same first broken rule.
use Rattle.std.specs.Prelude.{ℕ, zero, suc, ◌+◌, ◌-◌, ◌≤◌, ◌<◌, ◌%◌, ◌≡◌, refl, List, [], ◌∷◌, ◌++◌, map, Bool, true, false, not, ◌&&◌, eqb, ltb, length, Option, Some, None, Result, Ok, Err, IfOk}
use Rattle.std.proofs.Common.{arith, ◌∙◌}
use borrow.Author.Tests.{ltb-true, ltb-false, not-false}
use Rattle.laws.specs.Below.{below}
use Rattle.laws.specs.Bytes.{same}
use Rattle.laws.specs.First.{first}
use Rattle.laws.specs.Tests.{and_right}
use Rattle.mode.specs.declared.Mode.{Mode}
use Rattle.record.specs.Record.{record_at, count, mark_ok}
use Rattle.record.specs.declared.Record.{Record}
use Rattle.grammar.specs.Shape.{Class}
use Rattle.grammar.specs.Grammar.{shape}
use Rattle.grammar.specs.Slots.{slots_of}
use Rattle.grammar.specs.Classes.{classes_held, class_at}
use Rattle.grammar.specs.Packed.{kinds_held, turn, along, all_held}
use Rattle.tree.specs.Check.{Answer, Place, place, holds, fits, inside, deepest, faults_in, scan_in, scan}
use Rattle.tree.proofs.Steps.{held_split}
use Rattle.tree.specs.declared.Refusal.{Refusal}
use Rattle.tree.specs.declared.Refusal.TheVariants.{Mark, Misfit, Outside, Deep}
use Rattle.rules.specs.declared.Rule.{Rule}
use Rattle.rules.specs.declared.Rule.TheVariants.{Source, Rowid}
use Rattle.rules.specs.Rules.{rule_at, rule_of, rule_fault, sound_to, ruled, broken}

-- 01's scan of the records from i on, in these places, finds those before end sound
abbrev pub Reached : List ℕ → List ℕ → ℕ → ℕ → List Place → Type 0
Reached t x end i ps = i < end → sound_to t (scan t x (count t - i) i ps) ≡ end

-- what is broken behind a walk that came to w, where these places are left
unfoldable pub resumed : Mode → List ℕ → List ℕ → ℕ → Result ℕ Refusal → List Place → Answer
resumed m t x end (Ok j) ps = broken m t x (end - j) j ps
resumed m t x end (Err e) ps = Err e

-- the walk from index i with the places ps came to w with qs left, whatever places follow
pub record Goes (m : Mode) (t x : List ℕ) (end i : ℕ) (ps : List Place) (w : Result ℕ Refusal) (qs : List Place) : Type 0 where
  pub is : (rest : List Place) → Reached t x end i (ps ++ rest) → broken m t x (end - i) i (ps ++ rest) ≡ resumed m t x end w (qs ++ rest)
  pub on : (rest : List Place) → Reached t x end i (ps ++ rest) → IfOk w (λ j. Reached t x end j (qs ++ rest))

-- ---- a row of places, as the grammar numbers them, with the rules for them: those of n children of a kind, from one on
abbrev pub rules_from : ℕ → ℕ → ℕ → List (Option Rule)
rules_from k i zero = []
rules_from k i (suc n) = rule_of k i ∷ rules_from k (i + 1) n

pub record Rules (row k i n : ℕ) : Type 0 where
  pub held : all_held row n ≡ true
  pub rules : map rule_at (along row n) ≡ rules_from k i n

-- n records from an index on stand in a row of places with the rules for a kind's children, and are sound up to an end
pub record Led (t x : List ℕ) (end i left k n : ℕ) : Type 0 where
  pub row : ℕ
  pub rules : Rules row k 0 n
  pub rest : List Place
  pub reached : Reached t x end i (map (place (65 - left)) (along row n) ++ rest)

-- w is what a walk over them comes to, whatever row it is
abbrev pub Finds : Mode → List ℕ → List ℕ → ℕ → ℕ → ℕ → ℕ → ℕ → Result ℕ Refusal → Type 0
Finds m t x end i left k n w = (row : ℕ) → Rules row k 0 n → Goes m t x end i (map (place (65 - left)) (along row n)) w []

-- the same on the way: some row is left, with the rules from a child on
pub record Going (m : Mode) (t x : List ℕ) (end i : ℕ) (ps : List Place) (left next k child n : ℕ) : Type 0 where
  pub row : ℕ
  pub rules : Rules row k child n
  pub goes : Goes m t x end i ps (Ok next) (map (place (65 - left)) (along row n))

-- ---- one record
-- a record before the end: no test refuses it, and what is behind it is sound up to the end
sound : (t : List ℕ) (end : ℕ) (k f o d : Bool) (i : ℕ) (a : Answer) → i < end
    → sound_to t (first ((k, Err (Mark i)) ∷ (f, Err (Misfit i)) ∷ (o, Err (Outside i)) ∷ (d, Err (Deep i)) ∷ []) a) ≡ end
    → (f ≡ false) × ((o ≡ false) × (i + 1 < end → (d ≡ false) × (sound_to t a ≡ end)))
sound t end true f o d i a h e = absurd (omega arith)
sound t end false true o d i a h e = absurd (omega arith)
sound t end false false true d i a h e = absurd (omega arith)
sound t end false false false true i a h e = (refl, (refl, λ l. absurd (omega arith)))
sound t end false false false false i a h e = (refl, (refl, λ l. (refl, e)))

module _ (t x : List ℕ) (end i d : ℕ) (c : Class) (ps : List Place) (h : i < end) (reached : Reached t x end i (place d c ∷ ps)) where
  abbrev children : List Place
  children = map (place (d + 1)) (holds c (record_at t i))

  there : i < count t
  unfolding scan_in
  there = by (count t - i) refl (reached h)
    where
      by : (n : ℕ) → count t - i ≡ n → sound_to t (scan t x n i (place d c ∷ ps)) ≡ end → i < count t
      by zero q e = absurd (omega arith)
      by (suc n) q e = omega arith

  tested : (fits c (record_at t i) ≡ true) × ((inside x (record_at t i) ≡ true) × (i + 1 < end → (d ≤ deepest) × (sound_to t (scan t x (count t - (i + 1)) (i + 1) (children ++ ps)) ≡ end)))
  unfolding scan_in faults_in
  tested =
      let r = record_at t i in
      let n : count t - i ≡ suc (count t - (i + 1)) = omega (arith, there) in
      let s = sound t end (not (mark_ok r)) (not (fits c r)) (not (inside x r)) (ltb deepest d) i _ h (rw n at (reached h)) in
      (not-false (fits c r) s.0, (not-false (inside x r) s.1.0, λ l. (ltb-false deepest d (s.1.1 l).0, (s.1.1 l).1)))

  pub here_fits : fits c (record_at t i) ≡ true
  here_fits = tested.0

  pub here_inside : inside x (record_at t i) ≡ true
  here_inside = tested.1.0

  pub near : i + 1 < end → d ≤ deepest
  near l = (tested.1.1 l).0

  pub below_reached : Reached t x end (i + 1) (children ++ ps)
  below_reached l = (tested.1.1 l).1

-- ---- the ways of a walk
module _ (m : Mode) (t x : List ℕ) (end : ℕ) where
  pub start : (i : ℕ) (ps : List Place) → Goes m t x end i ps (Ok i) ps
  unfolding resumed
  start i ps = record { is = λ rest h. refl; on = λ rest h. h }

  -- a walk that is at the end, or stopped, looks at no more places
  pub ends : {i : ℕ} {ps : List Place} {j : ℕ} {qs : List Place} → end ≤ j → Goes m t x end i ps (Ok j) qs → Goes m t x end i ps (Ok j) []
  unfolding resumed broken
  ends {i} {ps} {j} {qs} over g =
      let e : end - j ≡ 0 = omega arith in
      record { is = λ rest h. rw e (rw e at (g.is rest h)); on = λ rest h l. absurd (omega arith) }

  pub stopped : {i : ℕ} {ps : List Place} {e : Refusal} {qs : List Place} → Goes m t x end i ps (Err e) qs → Goes m t x end i ps (Err e) []
  unfolding resumed
  stopped g = record { is = g.is; on = λ rest h. tt }

  module _ {i : ℕ} {ps : List Place} {j d : ℕ} {c : Class} {qs : List Place} (h : j < end) (g : Goes m t x end i ps (Ok j) (place d c ∷ qs)) (f : Answer)
      (fe : f ≡ rule_fault m x (rule_at c) (record_at t j) j) where
    arrives : (rest : List Place) → Reached t x end i (ps ++ rest) → Reached t x end j (place d c ∷ (qs ++ rest))
    arrives rest reached = g.on rest reached

    fits_here : (rest : List Place) → Reached t x end i (ps ++ rest) → fits c (record_at t j) ≡ true
    fits_here rest reached = here_fits t x end j d c (qs ++ rest) h (arrives rest reached)

    one_step : (rest : List Place)
        → broken m t x (end - j) j (place d c ∷ (qs ++ rest))
        ≡ ruled (broken m t x (end - (j + 1)) (j + 1) (map (place (d + 1)) (holds c (record_at t j)) ++ (qs ++ rest))) f
    unfolding broken
    one_step rest = let n : end - j ≡ suc (end - (j + 1)) = omega arith in rw (n, fe)

    -- the next record breaks a rule
    pub breaks : (e : Refusal) → f ≡ Err e → Goes m t x end i ps (Err e) []
    unfolding resumed
    breaks e z = record { is = λ rest reached. g.is rest reached ∙ one_step rest ∙ rw z; on = λ rest reached. tt }

    -- or it does not, and all below it, which fits its place, come to w
    pub passes : f ≡ Ok tt → {w : Result ℕ Refusal} → (fits c (record_at t j) ≡ true → Goes m t x end (j + 1) (map (place (d + 1)) (holds c (record_at t j))) w [])
        → Goes m t x end i ps w qs
    unfolding resumed
    passes z {w} b =
        record {
          is = λ rest reached.
              g.is rest reached ∙ one_step rest
              ∙ rw z ((b (fits_here rest reached)).is (qs ++ rest) (below_reached t x end j d c (qs ++ rest) h (arrives rest reached)));
          on = λ rest reached. (b (fits_here rest reached)).on (qs ++ rest) (below_reached t x end j d c (qs ++ rest) h (arrives rest reached));
        }

-- ---- a row from its second place on
module _ (row k i n : ℕ) (r : Rules row k i n) (h : 0 < n) where
  both : (a : Option Rule) (cs ds : List (Option Rule)) (b : Option Rule) → a ∷ cs ≡ b ∷ ds → (a ≡ b) × (cs ≡ ds)
  both a cs ds b e = (cc, cc)

  split : (rule_at (class_at (row % 256)) ≡ rule_of k i) × (map rule_at (along (turn row) (n - 1)) ≡ rules_from k (i + 1) (n - 1))
  split = let z : n ≡ suc (n - 1) = omega arith in both _ _ _ _ (rw z at r.rules)

  pub first_held : row % 256 < classes_held
  first_held = (held_split row n h r.held).0

  pub first_rule : rule_at (class_at (row % 256)) ≡ rule_of k i
  first_rule = split.0

  pub others : Rules (turn row) k (i + 1) (n - 1)
  others = record { held = (held_split row n h r.held).1; rules = split.1 }

-- ---- the row of a record's children, with the rules of its kind
-- two rows of rules are compared by a test that is computed
abbrev pub tag : Option Rule → ℕ
tag None = 0
tag (Some Source) = 1
tag (Some Rowid) = 2

pub slots_ruled : below (λ k. same (map tag (map rule_at (slots_of (shape k)))) (map tag (rules_from k 0 (length (slots_of (shape k)))))) kinds_held ≡ true
unfolding rule_at rule_of slots_of shape
slots_ruled = refl

-- some row has the places of a record's children, and the rules of its kind for them
pub record Children (c : Class) (r : Record) : Type 0 where
  pub row : ℕ
  pub rules : Rules row r.kind 0 r.kids
  pub are : holds c r ≡ along row r.kids

-- the code's test for that
pub more_below : (k j end : ℕ) → (not (eqb k 0) && ltb j end) ≡ true → j < end
more_below k j end h = ltb-true j end (and_right (not (eqb k 0)) (ltb j end) h)
