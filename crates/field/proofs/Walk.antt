-- The walk over an admitted tree. `Sound` says that the records from an index on fill their places, by the check's scan; so each of them fits its
-- place, and the walk may go by its children. `Goes` says what the walk has come to so far: what is left to be looked at leads to the same first
-- record that breaks the profile.
use Prim.Native.Nat.{ℕ, suc, ◌+◌, ◌-◌, ◌%◌, ◌≤◌, ◌<◌}
use native.Mathlib.Omega.{arith}
use Rattle.std.specs.Prelude.{◌≡◌, refl, List, [], ◌∷◌, ◌++◌, map, Bool, true, false, cond, Result, Ok, Err}
use Rattle.std.proofs.Common.{◌∙◌, ap, sym}
use Rattle.record.specs.Record.{record_at, count}
use Rattle.grammar.specs.Shape.{Class}
use Rattle.grammar.specs.Packed.{turn}
use Rattle.tree.specs.Check.{Place, place, holds, fits}
use Rattle.tree.proofs.Steps.{childless}
use Rattle.tree.specs.Walk.{refused}
use Rattle.admitted.proofs.Fills.{fill}
use Rattle.field.specs.Profile.{breaks, first_break}
use Rattle.field.specs.Nodes.{nodes_at, nodes_below, codes, breaks_by, depth_left, codes_below}
use Rattle.field.proofs.Nodes.{breaks_is}
use Rattle.field.specs.Walk.{Sound, resumed, Goes, Led, Finds, Going, Split}

-- ---- the ways of a walk
module _ (t : List ℕ) where
  pub start : (i : ℕ) (ps : List Place) → Goes t i ps (Ok i) ps
  unfolding resumed
  start i ps = record { is = λ rest h. refl; on = λ rest h. h }

  below_sound : {ps : List Place} {i d : ℕ} {c : Class} → Sound t (place d c ∷ ps) i → Sound t (map (place (d + 1)) (holds c (record_at t i)) ++ ps) (i + 1)
  below_sound s = record { text = s.text; fills = (fill s.fills).on; short = s.short }

  module _ {i : ℕ} {ps : List Place} {j d : ℕ} {c : Class} {qs : List Place} (g : Goes t i ps (Ok j) (place d c ∷ qs)) (b : Bool) (be : b ≡ breaks t j (place d c)) where
    arrives : (rest : List Place) → Sound t (ps ++ rest) i → Sound t (place d c ∷ (qs ++ rest)) j
    arrives rest s = g.on rest s

    one_step : (rest : List Place) → Sound t (ps ++ rest) i
        → first_break t (count t - j) j (place d c ∷ (qs ++ rest))
        ≡ cond b (Err j) (first_break t (count t - (j + 1)) (j + 1) (map (place (d + 1)) (holds c (record_at t j)) ++ (qs ++ rest)))
    unfolding first_break
    one_step rest s =
        let l = (fill (arrives rest s).fills).there in
        let n : count t - j ≡ suc (count t - (j + 1)) = omega arith in
        rw (n, be)

    -- the next record breaks the profile
    stops : b ≡ true → Goes t i ps (Err j) []
    unfolding resumed
    stops z = record { is = λ rest s. g.is rest s ∙ one_step rest s ∙ rw z; on = λ rest s. tt }

    -- or it does not, and all below it, which fits its place, come to w
    passes : b ≡ false → {w : Result ℕ ℕ} → (fits c (record_at t j) ≡ true → Goes t (j + 1) (map (place (d + 1)) (holds c (record_at t j))) w []) → Goes t i ps w qs
    unfolding resumed
    passes z {w} below =
        record {
          is = λ rest s.
              let a = arrives rest s in
              g.is rest s ∙ one_step rest s ∙ rw z ((below (fill a.fills).fit).is (qs ++ rest) (below_sound a));
          on = λ rest s. let a = arrives rest s in (below (fill a.fills).fit).on (qs ++ rest) (below_sound a);
        }

split : (cs : List Class) (u n : ℕ) → map nodes_at cs ≡ codes u n → 0 < n → Split cs u n
split cs u n e h = let z : n ≡ suc (n - 1) = omega arith in by cs (rw z at e)
  where
    by : (ds : List Class) → map nodes_at ds ≡ u % 256 ∷ codes (turn u) (n - 1) → Split ds u n
    by [] q = let z : ◌≡◌ {A = ℕ} 0 1 = cc in absurd (omega arith)
    by (d ∷ ds) q = record { class = d; others = ds; are = refl; first = cc; coded = cc }

-- ---- a turn of the loop, with some place left
module _ {t : List ℕ} {i : ℕ} {ps : List Place} {left next u n : ℕ} (g : Going t i ps left next u n) (some : 0 < n) where
  s : Split g.classes u n
  s = split g.classes u n g.coded some

  goes_here : Goes t i ps (Ok next) (place (25 - left) s.class ∷ map (place (25 - left)) s.others)
  goes_here = rw s.are at g.goes

  few : nodes_at s.class < 256
  few = omega (arith, s.first)

  -- the record is there, and with depth left its children stand in the places below
  module _ (rest : List Place) (sound : Sound t (ps ++ rest) i) where
    here : Sound t (place (25 - left) s.class ∷ (map (place (25 - left)) s.others ++ rest)) next
    here = goes_here.on rest sound

    pub turn_there : (next < count t) × (count t < refused)
    turn_there = ((fill here.fills).there, here.short)

    pub turn_led : 1 ≤ left → left ≤ 24 → Led t (next + 1) (left - 1) (nodes_below (u % 256) (record_at t next).kind) (record_at t next).kids
    turn_led l h =
        let d : 25 - left + 1 ≡ 25 - (left - 1) = omega arith in
        record {
          classes = holds s.class (record_at t next);
          coded = rw s.first at (codes_below s.class (record_at t next) few (fill here.fills).fit);
          rest = map (place (25 - left)) s.others ++ rest;
          sound = rw d at (below_sound t here);
        }

  module _ (b : Bool) (be : b ≡ breaks_by t next (u % 256) left) where
    test_here : b ≡ breaks t next (place (25 - left) s.class)
    test_here = be ∙ rw (sym s.first) (breaks_is t next s.class left)

    pub turn_breaks : b ≡ true → Goes t i ps (Err next) []
    turn_breaks = stops t goes_here b test_here

    pub turn_left : b ≡ false → 1 ≤ left
    turn_left z = depth_left t next (u % 256) left (sym be ∙ z)

    -- all below the record come to w, where it does not break the profile
    module _ (z : b ≡ false) where
      on_all : {w : Result ℕ ℕ} → (fits s.class (record_at t next) ≡ true → Goes t (next + 1) (map (place (25 - left + 1)) (holds s.class (record_at t next))) w []) → Goes t i ps w (map (place (25 - left)) s.others)
      on_all below = passes t goes_here b test_here z below

      -- by the walk below it
      module _ (h : left ≤ 24) where
        walked_below : {w : Result ℕ ℕ} → Finds t (next + 1) (left - 1) (nodes_below (u % 256) (record_at t next).kind) (record_at t next).kids w
            → fits s.class (record_at t next) ≡ true → Goes t (next + 1) (map (place (25 - left + 1)) (holds s.class (record_at t next))) w []
        walked_below found fe =
            let l = turn_left z in
            let d : 25 - left + 1 ≡ 25 - (left - 1) = omega arith in
            rw d (found (holds s.class (record_at t next)) (rw s.first at (codes_below s.class (record_at t next) few fe)))

        pub turn_found : (k : ℕ) → Finds t (next + 1) (left - 1) (nodes_below (u % 256) (record_at t next).kind) (record_at t next).kids (Err k) → Goes t i ps (Err k) []
        unfolding resumed
        turn_found k found = let g = on_all (walked_below found) in record { is = g.is; on = λ rest q. tt }

        pub turn_on : (j : ℕ) → Finds t (next + 1) (left - 1) (nodes_below (u % 256) (record_at t next).kind) (record_at t next).kids (Ok j) → Going t i ps left j (turn u) (n - 1)
        turn_on j found = record { classes = s.others; coded = s.coded; goes = on_all (walked_below found) }

      -- or since there is nothing below it
      module _ (none : (record_at t next).kids ≡ 0) where
        none_below : fits s.class (record_at t next) ≡ true → Goes t (next + 1) (map (place (25 - left + 1)) (holds s.class (record_at t next))) (Ok (next + 1)) []
        none_below fe = rw (childless s.class (record_at t next) fe none) (start t (next + 1) [])

        pub turn_childless : Going t i ps left (next + 1) (turn u) (n - 1)
        turn_childless = record { classes = s.others; coded = s.coded; goes = on_all none_below }
