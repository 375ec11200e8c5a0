-- What the rules of 02 for single TEXTs come to beside 01's check. A rule is asked for behind 3, 4 and 5 and before 6: so of the records that
-- 01's check finds sound so far, and of no other, the first that breaks a rule is the answer in a mode (`join`).
use Rattle.std.specs.Prelude.{ℕ, zero, suc, ◌+◌, ◌≤◌, ◌≡◌, refl, List, [], ◌∷◌, ◌++◌, map, Bool, true, false, not, cond, ◌&&◌, leb, eqb, ltb, length, Option, Some, None, Result, Ok, Err}
use Rattle.std.proofs.Common.{arith}
use Rattle.std.proofs.Math.Bool.{and-false}
use borrow.Author.Tests.{eq-eqb, ne_eqb, leb-true, not-true, not-false}
use Rattle.laws.specs.First.{first}
use Rattle.laws.specs.Tests.{and_left}
use Rattle.mode.specs.Options.{is_sqlite}
use Rattle.mode.specs.declared.Mode.{Mode}
use Rattle.source.specs.Source.{ends_inside}
use Rattle.rowid.specs.Rowid.{names}
use Rattle.record.specs.Record.{part, record_at, count, mark_ok}
use Rattle.record.specs.declared.Record.{Record}
use Rattle.grammar.specs.Kind.{TEXT, Check, ColumnsAndConstraints}
use Rattle.grammar.specs.Shape.{Class, one, list, one_or, small, check_source, without_rowid, ruled as ruledPlace}
use Rattle.tree.specs.Check.{Answer, Admitted, Place, place, holds, fits, has_part, inside, swallows, misnames, deepest, faults_in, scan_in, scan}
use Rattle.tree.specs.declared.Refusal.{Refusal}
use Rattle.tree.specs.declared.Refusal.TheVariants.{Malformed, TooLong, Broken, Mark, Misfit, Outside, Unclosed, NotRowid, Deep, Ends}
use Rattle.rules.specs.declared.Rule.{Rule}
use Rattle.rules.specs.declared.Rule.TheVariants.{Source, Rowid}

-- ---- the rules, as the code names them
-- the rule for a place, where there is one
unfoldable pub rule_at : Class → Option Rule
rule_at (ruledPlace check_source) = Some Source
rule_at (ruledPlace without_rowid) = Some Rowid
rule_at (one ks) = None
rule_at (list c) = None
rule_at (one_or ks c) = None
rule_at small = None

-- the rule for a kind's child, the first being 0: a CHECK's second is its source, and a table's third its without-rowid text
unfoldable pub rule_of : ℕ → ℕ → Option Rule
rule_of k i = first ((eqb k Check && eqb i 1, Some Source) ∷ (eqb k ColumnsAndConstraints && eqb i 2, Some Rowid) ∷ []) None

-- whether a rule is in force in a mode, whether bytes keep it, and the refusal of the record at an index where they do not
abbrev pub in_force : Rule → Mode → Bool
in_force Source m = m.strict
in_force Rowid m = is_sqlite m.edition

abbrev pub keeps : Rule → List ℕ → Bool
keeps Source s = not (ends_inside s)
keeps Rowid s = names s

abbrev pub refusal : Rule → ℕ → Refusal
refusal Source i = Unclosed i
refusal Rowid i = NotRowid i

-- what a record comes to under a rule
unfoldable pub rule_fault : Mode → List ℕ → Option Rule → Record → ℕ → Answer
rule_fault m x None r i = Admitted
rule_fault m x (Some u) r i = cond (in_force u m && (eqb r.kind TEXT && not (keeps u (part x r.start r.len)))) (Err (refusal u i)) Admitted

-- ---- the records that a rule may be asked of
-- how many there are, where 01's check answers this: those before its refusal, and that record too if it is only too deep
abbrev pub sound_to : List ℕ → Answer → ℕ
sound_to t (Ok u) = count t
sound_to t (Err Malformed) = 0
sound_to t (Err TooLong) = 0
sound_to t (Err (Broken b)) = 0
sound_to t (Err (Mark i)) = i
sound_to t (Err (Misfit i)) = i
sound_to t (Err (Outside i)) = i
sound_to t (Err (Unclosed i)) = i
sound_to t (Err (NotRowid i)) = i
sound_to t (Err (Deep i)) = i + 1
sound_to t (Err (Ends i)) = i

-- the answer where another is a, and a refusal comes before it
abbrev pub ruled : {A : Type 0} → Answer → Result A Refusal → Answer
ruled a (Ok u) = a
ruled a (Err e) = Err e

-- the first that breaks a rule, of the n records from index i on, which stand in these places
unfoldable pub broken : Mode → List ℕ → List ℕ → ℕ → ℕ → List Place → Answer
broken m t x zero i ps = Admitted
broken m t x (suc n) i [] = Admitted
broken m t x (suc n) i (p ∷ ps) =
    ruled
    (broken m t x n (i + 1) (map (place (p.depth + 1)) (holds p.class (record_at t i)) ++ ps))
    (rule_fault m x (rule_at p.class) (record_at t i) i)

-- ---- the rules are those of the check
none_asked : (s q : Bool) (i : ℕ) → Admitted ≡ first ((s && false, Err (Unclosed i)) ∷ (q && false, Err (NotRowid i)) ∷ []) Admitted
none_asked true true i = refl
none_asked true false i = refl
none_asked false true i = refl
none_asked false false i = refl

pub fault_is : (m : Mode) (x : List ℕ) (c : Class) (r : Record) (i : ℕ)
    → rule_fault m x (rule_at c) r i ≡ first ((m.strict && swallows x c r, Err (Unclosed i)) ∷ (is_sqlite m.edition && misnames x c r, Err (NotRowid i)) ∷ []) Admitted
unfolding rule_fault rule_at swallows misnames
fault_is m x (ruledPlace check_source) r i = by m.strict (is_sqlite m.edition) (eqb r.kind TEXT) (ends_inside (part x r.start r.len))
  where
    by : (s q k e : Bool) → cond (s && (k && not (not e))) (Err (Unclosed i)) Admitted ≡ first ((s && (k && e), Err (Unclosed i)) ∷ (q && false, Err (NotRowid i)) ∷ []) Admitted
    by true true true true = refl
    by true true true false = refl
    by true true false e = refl
    by true false true true = refl
    by true false true false = refl
    by true false false e = refl
    by false true k e = refl
    by false false k e = refl
fault_is m x (ruledPlace without_rowid) r i = by m.strict (is_sqlite m.edition) (eqb r.kind TEXT) (names (part x r.start r.len))
  where
    by : (s q k e : Bool) → cond (q && (k && not e)) (Err (NotRowid i)) Admitted ≡ first ((s && false, Err (Unclosed i)) ∷ (q && (k && not e), Err (NotRowid i)) ∷ []) Admitted
    by true q k e = refl
    by false q k e = refl
fault_is m x (one ks) r i = none_asked m.strict (is_sqlite m.edition) i
fault_is m x (list c) r i = none_asked m.strict (is_sqlite m.edition) i
fault_is m x (one_or ks c) r i = none_asked m.strict (is_sqlite m.edition) i
fault_is m x small r i = none_asked m.strict (is_sqlite m.edition) i

-- ---- the scan in a mode is 01's scan, but for the first that breaks a rule
module _ (t x : List ℕ) where
  -- 01's scan finds no record sound past the end
  pub sound_within : (n i : ℕ) (ps : List Place) → i + n ≡ count t → sound_to t (scan t x n i ps) ≤ count t
  unfolding scan_in faults_in
  sound_within zero i [] e = omega arith
  sound_within zero i (p ∷ ps) e = omega arith
  sound_within (suc n) i [] e = omega arith
  sound_within (suc n) i (p ∷ ps) e =
      let r = record_at t i in
      by (not (mark_ok r)) (not (fits p.class r)) (not (inside x r)) (ltb deepest p.depth) _
      (sound_within n (i + 1) (map (place (p.depth + 1)) (holds p.class r) ++ ps) (omega arith))
    where
      by : (k f o d : Bool) (a : Answer) → sound_to t a ≤ count t
          → sound_to t (first ((k, Err (Mark i)) ∷ (f, Err (Misfit i)) ∷ (o, Err (Outside i)) ∷ (d, Err (Deep i)) ∷ []) a) ≤ count t
      by true f o d a h = omega arith
      by false true o d a h = omega arith
      by false false true d a h = omega arith
      by false false false true a h = omega arith
      by false false false false a h = h

-- ---- the ways through the rules, one test behind the other
module _ (m : Mode) (x : List ℕ) (r : Record) (i : ℕ) where
  -- a text part lies inside the text
  pub part_ends : r.kind ≡ TEXT → inside x r ≡ true → r.start + r.len ≤ length x
  unfolding inside has_part
  part_ends k h = leb-true (r.start + r.len) (length x) (and_left (leb (r.start + r.len) (length x)) _ (rw k at h))

  module _ (u : Rule) (f : Bool) (fe : f ≡ in_force u m) where
    pub not_in_force : not f ≡ true → Admitted ≡ rule_fault m x (Some u) r i
    unfolding rule_fault
    not_in_force h = rw (← fe, not-true f h)

    pub no_text : (r.kind ≡ TEXT → ⊥) → Admitted ≡ rule_fault m x (Some u) r i
    unfolding rule_fault
    no_text h = rw (ne_eqb r.kind TEXT h, and-false (in_force u m))

    module _ (on : not f ≡ false) (k : r.kind ≡ TEXT) (b : Bool) (be : b ≡ keeps u (part x r.start r.len)) where
      pub kept : b ≡ true → Admitted ≡ rule_fault m x (Some u) r i
      unfolding rule_fault
      kept h = rw (← fe, not-false f on, eq-eqb r.kind TEXT k, ← be, h)

      pub not_kept : b ≡ false → Err (refusal u i) ≡ rule_fault m x (Some u) r i
      unfolding rule_fault
      not_kept h = rw (← fe, not-false f on, eq-eqb r.kind TEXT k, ← be, h)
