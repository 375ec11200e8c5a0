-- What the rules of 02 for single TEXTs come to beside 01's check. A rule is asked for behind 3, 4 and 5 and before 6: so of the records that
-- 01's check finds sound so far, and of no other, the first that breaks a rule is the answer in a mode (`join`).
use Rattle.std.specs.Prelude.{ℕ, zero, suc, ◌+◌, ◌-◌, ◌≤◌, ◌≡◌, refl, List, [], ◌∷◌, ◌++◌, map, Bool, true, false, not, ◌&&◌, ltb, Err}
use Rattle.std.proofs.Common.{arith}
use Rattle.laws.specs.First.{first}
use Rattle.mode.specs.Options.{is_sqlite}
use Rattle.mode.specs.declared.Mode.{Mode}
use Rattle.record.specs.Record.{record_at, count, mark_ok}
use Rattle.tree.specs.Check.{Answer, Admitted, Place, place, holds, fits, inside, swallows, misnames, deepest, faults_in, scan_in, scan}
use Rattle.tree.specs.declared.Refusal.TheVariants.{Mark, Misfit, Outside, Unclosed, NotRowid, Deep}
use Rattle.rules.specs.Rules.{sound_to, broken, ruled, fault_is}

module _ (m : Mode) (t x : List ℕ) where
  -- 01's scan from an index on finds the records before it sound
  sound_onward : (n i : ℕ) (ps : List Place) → i + n ≡ count t → i ≤ sound_to t (scan t x n i ps)
  unfolding scan_in faults_in
  sound_onward zero i [] e = omega arith
  sound_onward zero i (p ∷ ps) e = omega arith
  sound_onward (suc n) i [] e = omega arith
  sound_onward (suc n) i (p ∷ ps) e =
      let r = record_at t i in
      by (not (mark_ok r)) (not (fits p.class r)) (not (inside x r)) (ltb deepest p.depth) _
      (sound_onward n (i + 1) (map (place (p.depth + 1)) (holds p.class r) ++ ps) (omega arith))
    where
      by : (k f o d : Bool) (a : Answer) → i + 1 ≤ sound_to t a
          → i ≤ sound_to t (first ((k, Err (Mark i)) ∷ (f, Err (Misfit i)) ∷ (o, Err (Outside i)) ∷ (d, Err (Deep i)) ∷ []) a)
      by true f o d a h = omega arith
      by false true o d a h = omega arith
      by false false true d a h = omega arith
      by false false false true a h = omega arith
      by false false false false a h = omega arith

  abbrev fault_by : Bool → Bool → ℕ → Answer
  fault_by s q i = first ((s, Err (Unclosed i)) ∷ (q, Err (NotRowid i)) ∷ []) Admitted

  -- one record: its tests k f o s q d, the answers a and b behind it without and with the rules, and what is broken behind it
  one_record : (k f o s q d : Bool) (i : ℕ) (a b : Answer) (rest : ℕ → Answer) → rest 0 ≡ Admitted → i + 1 ≤ sound_to t a
      → b ≡ ruled a (rest (sound_to t a - (i + 1))) → (here : ℕ → Answer) → here 0 ≡ Admitted
      → ((n : ℕ) → here (suc n) ≡ ruled (rest n) (fault_by s q i))
      → first ((k, Err (Mark i)) ∷ (f, Err (Misfit i)) ∷ (o, Err (Outside i)) ∷ (s, Err (Unclosed i)) ∷ (q, Err (NotRowid i)) ∷ (d, Err (Deep i)) ∷ []) b
      ≡ (let c = first ((k, Err (Mark i)) ∷ (f, Err (Misfit i)) ∷ (o, Err (Outside i)) ∷ (d, Err (Deep i)) ∷ []) a in ruled c (here (sound_to t c - i)))
  one_record true f o s q d i a b rest z h e here y u = let v : i - i ≡ 0 = omega arith in rw (v, y)
  one_record false true o s q d i a b rest z h e here y u = let v : i - i ≡ 0 = omega arith in rw (v, y)
  one_record false false true s q d i a b rest z h e here y u = let v : i - i ≡ 0 = omega arith in rw (v, y)
  one_record false false false true q true i a b rest z h e here y u = let v : i + 1 - i ≡ 1 = omega arith in rw (v, u 0)
  one_record false false false false true true i a b rest z h e here y u = let v : i + 1 - i ≡ 1 = omega arith in rw (v, u 0)
  one_record false false false false false true i a b rest z h e here y u = let v : i + 1 - i ≡ 1 = omega arith in rw (v, u 0, z)
  one_record false false false true q false i a b rest z h e here y u = let v : sound_to t a - i ≡ suc (sound_to t a - (i + 1)) = omega arith in rw (v, u)
  one_record false false false false true false i a b rest z h e here y u = let v : sound_to t a - i ≡ suc (sound_to t a - (i + 1)) = omega arith in rw (v, u)
  one_record false false false false false false i a b rest z h e here y u = let v : sound_to t a - i ≡ suc (sound_to t a - (i + 1)) = omega arith in rw (v, u) e

  pub join : (n i : ℕ) (ps : List Place) → i + n ≡ count t
      → scan_in m t x n i ps ≡ ruled (scan t x n i ps) (broken m t x (sound_to t (scan t x n i ps) - i) i ps)
  unfolding scan_in faults_in broken
  join zero i [] e = let z : count t - i ≡ 0 = omega arith in rw z
  join zero i (p ∷ ps) e = let z : i - i ≡ 0 = omega arith in rw z
  join (suc n) i [] e = let z : i - i ≡ 0 = omega arith in rw z
  join (suc n) i (p ∷ ps) e =
      let r = record_at t i in
      let qs = map (place (p.depth + 1)) (holds p.class r) ++ ps in
      one_record (not (mark_ok r)) (not (fits p.class r)) (not (inside x r)) (m.strict && swallows x p.class r) (is_sqlite m.edition && misnames x p.class r) (ltb deepest p.depth) i
      (scan t x n (i + 1) qs) (scan_in m t x n (i + 1) qs) (λ k. broken m t x k (i + 1) qs) refl
      (sound_onward n (i + 1) qs (omega arith)) (join n (i + 1) qs (omega arith)) (λ k. broken m t x k i (p ∷ ps)) refl
      (λ k. rw (fault_is m x p.class r i))
