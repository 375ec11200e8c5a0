-- Laws of a walk, and of a row of places, whose end is not known to be behind its start: `Comes` is `Walks` without `onward`, and `Leads` is
-- `Along` without it. The laws of `Steps` and `Whole` go by these.
use Rattle.std.specs.Prelude.{ℕ, suc, ◌+◌, ◌-◌, ◌≤◌, ◌<◌, ◌≡◌, List, [], ◌∷◌, ◌++◌, map, Result, Ok, Err, IfOk, IfErr}
use Rattle.std.proofs.Common.{arith, ◌∙◌, sym}
use Rattle.record.specs.Record.{record_at, count}
use Rattle.record.specs.declared.Record.{Record}
use Rattle.grammar.specs.Shape.{Class}
use Rattle.grammar.specs.Grammar.{root}
use Rattle.grammar.specs.Classes.{class_at, root_at, root_is}
use Rattle.tree.specs.Check.{Admitted, Place, place, holds, scan_in, scan}
use Rattle.tree.specs.declared.Refusal.{Refusal}
use Rattle.tree.specs.declared.Refusal.TheVariants.{Ends}
use Rattle.tree.specs.Walk.{refused as refusals, Small, Crosses, Walks, resumed, met_at}
use Rattle.tree.specs.Steps.{Along}
use Rattle.tree.proofs.Walk.{goes_on, met_small, met_stops}

-- w is what the records from index i on come to that must fill the places ps, whatever places follow; an index behind them is no
-- further than the tree's end
pub record Comes (t x : List ℕ) (i : ℕ) (ps : List Place) (w : Result ℕ Refusal) : Type 0 where
  pub is : (rest : List Place) → scan t x (count t - i) i (ps ++ rest) ≡ resumed t x w rest
  pub ended : IfOk w (λ j. j ≤ count t)
  pub small : IfErr w Small

-- along a row of places: from index i with the places ps to index j with qs left
pub record Leads (t x : List ℕ) (i : ℕ) (ps : List Place) (j : ℕ) (qs : List Place) : Type 0 where
  pub ended : j ≤ count t
  pub is : (rest : List Place) → scan t x (count t - j) j (qs ++ rest) ≡ scan t x (count t - i) i (ps ++ rest)

module _ {t x : List ℕ} {i : ℕ} {ps : List Place} where
  pub comes : {w : Result ℕ Refusal} → Walks t x i ps w → Comes t x i ps w
  comes w = record { is = w.is; ended = w.ended; small = w.small }

  pub leads : {j : ℕ} {qs : List Place} → Along t x i ps j qs → Leads t x i ps j qs
  leads a = record { ended = a.ended; is = a.is }

  -- of a walk that is refused nothing more is said
  pub stopped : {e : Refusal} → Comes t x i ps (Err e) → Walks t x i ps (Err e)
  stopped w = record { onward = tt; is = w.is; ended = tt; small = w.small }

pub crosses : {t x : List ℕ} {i : ℕ} {ps : List Place} (w : Result ℕ Refusal) → count t < refusals → Comes t x i ps w → Crosses w
crosses (Ok j) h w = omega (arith, w.ended)
crosses (Err e) h w = w.small

-- ---- from the walk of the root to the scan of all records
module _ (t x : List ℕ) (w : Result ℕ Refusal) (walked : Comes t x 0 (place 1 (class_at root_at) ∷ []) w) where
  pub scanned : scan t x (count t) 0 (place 1 root ∷ []) ≡ resumed t x w []
  scanned =
      let z : count t - 0 ≡ count t = omega arith in
      rw (root_is, z) at (walked.is [])

module _ (t x : List ℕ) where
  pub refused : (e : Refusal) → Comes t x 0 (place 1 (class_at root_at) ∷ []) (Err e) → Err e ≡ scan t x (count t) 0 (place 1 root ∷ [])
  refused e w = sym (scanned t x (Err e) w)

  module _ (k : ℕ) (w : Comes t x 0 (place 1 (class_at root_at) ∷ []) (Ok k)) where
    -- the records that are left over are refused at the first
    pub left_over : k < count t → Err (Ends k) ≡ scan t x (count t) 0 (place 1 root ∷ [])
    unfolding scan_in
    left_over h =
        let z : count t - k ≡ suc (count t - suc k) = omega arith in
        sym (scanned t x (Ok k) w ∙ rw z)

    pub all_filled : count t ≤ k → Admitted ≡ scan t x (count t) 0 (place 1 root ∷ [])
    unfolding scan_in
    all_filled h =
        let z : count t - k ≡ 0 = omega arith in
        sym (scanned t x (Ok k) w ∙ rw z)

module _ (t x : List ℕ) (r : Record) (i left : ℕ) (c : Class) (re : r ≡ record_at t i) (z : Admitted ≡ met_at t x r i left c) (l : left ≤ 64) where
  pub down : (w : Result ℕ Refusal) → Comes t x (i + 1) (map (place (65 - (left - 1))) (holds c r)) w → Comes t x i (place (65 - left) c ∷ []) w
  down w b = record { is = λ rest. goes_on t x r i left c re z l rest ∙ b.is rest; ended = b.ended; small = b.small }

-- ---- along what may stand in the places: cs is left
module _ (t x : List ℕ) (i : ℕ) (ps : List Place) (j left : ℕ) (cs : List Class) (a : Leads t x i ps j (map (place (65 - left)) cs)) where
  pub row_end : cs ≡ [] → Comes t x i ps (Ok j)
  row_end e = record { is = λ rest. sym (rw e at (a.is rest)); ended = a.ended; small = tt }

  module _ (c : Class) (ds : List Class) (split : cs ≡ c ∷ ds) where
    pub from_here : (rest : List Place) → scan t x (count t - j) j (place (65 - left) c ∷ (map (place (65 - left)) ds ++ rest)) ≡ scan t x (count t - i) i (ps ++ rest)
    from_here rest = rw split at (a.is rest)

    -- the next place is where the walk stops
    pub stops : (e : Refusal) → Small e → ((qs : List Place) → scan t x (count t - j) j (place (65 - left) c ∷ qs) ≡ Err e) → Comes t x i ps (Err e)
    stops e s w = record { is = λ rest. sym (from_here rest) ∙ w (map (place (65 - left)) ds ++ rest); ended = tt; small = s }

    -- in it is no record, or one with a fault; or one with none, and all below it come to w
    module _ (r : Record) (re : r ≡ record_at t j) where
      pub row_refused : count t < refusals → (e : Refusal) → Err e ≡ met_at t x r j left c → Comes t x i ps (Err e)
      row_refused few e h = stops e (met_small t x r j left c e (omega (arith, a.ended)) h) (met_stops t x r j left c re e h)

      module _ (z : Admitted ≡ met_at t x r j left c) (l : left ≤ 64) where
        pub row_stops : (e : Refusal) → Comes t x (j + 1) (map (place (65 - (left - 1))) (holds c r)) (Err e) → Comes t x i ps (Err e)
        row_stops e w = stops e w.small (down t x r j left c re z l (Err e) w).is

        pub row_filled : (k : ℕ) → Comes t x (j + 1) (map (place (65 - (left - 1))) (holds c r)) (Ok k) → Leads t x i ps k (map (place (65 - left)) ds)
        row_filled k w =
            let d = down t x r j left c re z l (Ok k) w in
            record { ended = w.ended; is = λ rest. sym (d.is (map (place (65 - left)) ds ++ rest)) ∙ from_here rest }
