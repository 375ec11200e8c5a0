-- From measure and the walk to the verdict; that no two verdicts satisfy the contract, and that a place is small.
use Rattle.std.specs.Prelude.{ℕ, zero, suc, ◌+◌, ◌-◌, ◌≤◌, ◌<◌, ◌≡◌, refl, List, [], ◌∷◌, ◌++◌, map, Bool, true, false, cond, length, Result, Ok, Err, MatchResult}
use Rattle.std.proofs.Common.{arith, ◌∙◌, ap, sym}
use Rattle.mode.specs.Options.{plain}
use Rattle.mode.specs.declared.Edition.TheVariants.{Crate}
use Rattle.mode.specs.declared.Mode.{Mode}
use Rattle.utf8.specs.Rfc3629.{Encoding}
use Rattle.utf8.specs.Laws.{number_broken}
use Rattle.record.specs.Record.{record_at, count}
use Rattle.grammar.specs.Grammar.{root}
use Rattle.tree.specs.Check as tree
use Rattle.tree.specs.Check.{Answer, Admitted, Place, place, holds, ChecksIn, scan_in, answer_in}
use Rattle.tree.proofs.Bounds.{admitted_short}
use Rattle.tree.specs.declared.Refusal.{Refusal as TreeRefusal}
use Rattle.tree.specs.declared.Refusal.TheVariants.{Malformed, TooLong, Broken, Mark, Misfit, Outside, Unclosed, NotRowid, Deep, Ends}
use Rattle.rules.specs.Whole.{plain_looser, looser}
use Rattle.tokens.specs.Tokens.{in_edition}
use Rattle.admitted.proofs.Fills.{root_filled}
use Rattle.render.specs.Render as render
use Rattle.render.specs.Render.{Outcome, or_refused, measured, text_in, MeasuresIn}
use Rattle.render.specs.Laws.{measures_unique, number_small as outcome-small}
use Rattle.render.specs.declared.Refusal.{Refusal as RenderRefusal}
use Rattle.render.specs.declared.Refusal.TheVariants.{Tree, NoRoom}
use Rattle.field.specs.Profile.{Verdict, takes_node, breaks, first_break, broken, Measured, or_unfit, profiled, ProfilesIn, number_of}
use Rattle.field.specs.Nodes.{nodes_at}
use Rattle.field.specs.Walk.{Sound, resumed, Led, Finds}
use Rattle.field.specs.declared.Refusal.TheVariants.{Measure, Unfit}

-- ---- no refusal is 0
not_zero : (r : TreeRefusal) → tree.number_of (Err r) ≡ 0 → ⊥
not_zero Malformed z = omega arith
not_zero TooLong z = omega arith
not_zero (Broken b) z = number_broken b z
not_zero (Mark i) z = omega arith
not_zero (Misfit i) z = omega arith
not_zero (Outside i) z = omega arith
not_zero (Unclosed i) z = omega arith
not_zero (NotRowid i) z = omega arith
not_zero (Deep i) z = omega arith
not_zero (Ends i) z = omega arith

pub no_zero : (r : RenderRefusal) → render.number_of (Err r) ≡ 0 → ⊥
no_zero (Tree r) z = not_zero r z
no_zero (NoRoom n) z = omega arith

-- ---- a check that is answered 0 admits
pub zero_admits : (a : Answer) → tree.number_of a ≡ 0 → a ≡ Admitted
zero_admits (Ok u) z = refl
zero_admits (Err r) z = absurd (not_zero r z)

module _ (m : Mode) (t x : List ℕ) where
  scan_admits : (n i : ℕ) (ps : List Place) → tree.number_of (scan_in m t x n i ps) ≡ 0 → scan_in m t x n i ps ≡ Admitted
  scan_admits n i ps = zero_admits (scan_in m t x n i ps)

  answer_admits : (e : Encoding) → tree.number_of (answer_in m e t x) ≡ 0 → answer_in m e t x ≡ Admitted
  answer_admits e = zero_admits (answer_in m e t x)

-- ---- where measure's outcome is 0, the check admits the tree, in the mode and without one
module _ {m : Mode} {t x : List ℕ} {o : Outcome} (mm : MeasuresIn m t x o) (z : render.number_of o ≡ 0) where
  answered : ChecksIn m t x Admitted × (o ≡ Ok (length (text_in m.edition t x)))
  unfolding measured
  answered = by mm.answer mm.checks mm.answers
    where
      by : (a : Answer) → ChecksIn m t x a → o ≡ or_refused a (Ok (length (text_in m.edition t x))) → ChecksIn m t x Admitted × (o ≡ Ok (length (text_in m.edition t x)))
      by (Ok u) c e = (c, e)
      by (Err r) c e = absurd (not_zero r (sym (ap render.number_of e) ∙ z))

  pub length_told : o ≡ Ok (length (text_in m.edition t x))
  length_told = answered.1

  pub checked : ChecksIn m t x Admitted
  checked = answered.0

  root_sound : Sound t (place 1 root ∷ []) 0
  root_sound =
      let s = admitted_short checked refl in
      record {
        text = x;
        fills = root_filled (in_edition t x Crate) (looser plain m (plain_looser m) t x Admitted refl checked);
        short = omega (arith, s.0);
      }

  root_coded : map nodes_at (root ∷ []) ≡ 3 ∷ []
  unfolding nodes_at takes_node
  root_coded = refl

  pub led : Led t 0 24 3 1
  led = record { classes = root ∷ []; coded = root_coded; rest = []; sound = root_sound }

  -- what the walk comes to is what is broken
  none_left : (n i : ℕ) → first_break t n i [] ≡ Ok i
  unfolding first_break
  none_left zero i = refl
  none_left (suc n) i = refl

  walked : (w : Result ℕ ℕ) → Finds t 0 24 3 1 w → first_break t (count t) 0 (place 1 root ∷ []) ≡ resumed t w []
  walked w found = let e : count t - 0 ≡ count t = omega arith in rw e at ((found (root ∷ []) root_coded).is [] root_sound)

  pub found_is : (w : Result ℕ ℕ) → Finds t 0 24 3 1 w → broken t ≡ w
  unfolding broken resumed
  found_is (Err i) found = walked (Err i) found
  found_is (Ok j) found = walked (Ok j) found ∙ none_left (count t - j) j

-- ---- the ways through the profile
pub told_refused : {m : Mode} {t x : List ℕ} (r : RenderRefusal) → MeasuresIn m t x (Err r) → ProfilesIn m t x (Err (Measure r))
unfolding profiled
told_refused r mm = record { outcome = Err r; measures = mm; answers = refl }

module _ {m : Mode} {t x : List ℕ} {n : ℕ} (mm : MeasuresIn m t x (Ok n)) where
  pub told_unfit : (i : ℕ) → broken t ≡ Err i → ProfilesIn m t x (Err (Unfit i))
  unfolding profiled
  told_unfit i e = record { outcome = Ok n; measures = mm; answers = rw e }

  pub told_fit : (j : ℕ) → broken t ≡ Ok j → ProfilesIn m t x (Ok n)
  unfolding profiled
  told_fit j e = record { outcome = Ok n; measures = mm; answers = rw e }

-- no two verdicts satisfy the contract
pub unique : (m : Mode) (t x : List ℕ) (v w : Verdict) → ProfilesIn m t x v → ProfilesIn m t x w → v ≡ w
unique m t x v w p q =
    p.answers ∙ ap (profiled t) (measures_unique m t x p.outcome q.outcome p.measures q.measures) ∙ sym q.answers

-- ---- a number is one of the table, and a place is far below 2^32, so that the two can be told apart in one number
pub number_small : (v : Verdict) → number_of v < 16
number_small (Ok n) = omega arith
number_small (Err (Measure r)) = outcome-small (Err r)
number_small (Err (Unfit i)) = omega arith

-- what breaks the profile is a record of the tree
abbrev pub UpTo : ℕ → Result ℕ ℕ → Type 0
UpTo n (Ok j) = j ≤ n
UpTo n (Err i) = i ≤ n

pub break_there : (t : List ℕ) (n i : ℕ) (ps : List Place) → UpTo (i + n) (first_break t n i ps)
unfolding first_break
break_there t zero i ps = omega arith
break_there t (suc n) i [] = omega arith
break_there t (suc n) i (p ∷ ps) =
    let qs = map (place (p.depth + 1)) (holds p.class (record_at t i)) ++ ps in
    by (breaks t i p) _ (break_there t n (i + 1) qs)
  where
    by : (b : Bool) (w : Result ℕ ℕ) → UpTo (i + 1 + n) w → UpTo (i + suc n) (cond b (Err i) w)
    by true w h = omega arith
    by false (Ok j) h = omega arith
    by false (Err j) h = omega arith
