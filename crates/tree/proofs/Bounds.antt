-- Bounds of the check's answers: a number is one of 01's, a place is small, and what is admitted is not over-long.
use Rattle.std.specs.Prelude.{ℕ, zero, suc, ◌+◌, ◌≤◌, ◌<◌, ◌≡◌, List, [], ◌∷◌, ◌++◌, map, Bool, not, cond, ◌&&◌, ◌||◌, eqb}
use native.Mathlib.Omega.{arith}
use Rattle.std.proofs.Math.Path.{refl}
use Rattle.std.proofs.Common.{ap, ◌∙◌, sym}
use Rattle.std.proofs.Math.Bool.{true, false}
use Rattle.std.proofs.lemmas.Bool.{false≢true}
use Rattle.std.proofs.Math.Dec.{ltb}
use Rattle.std.proofs.Math.ListN.{length}
use Rattle.std.specs.Prelude.{Ok, Err}
use borrow.Author.Tests.{ltb-false}
use Rattle.mode.specs.Options.{is_sqlite}
use Rattle.mode.specs.declared.Mode.{Mode}
use Rattle.utf8.specs.Rfc3629.{Encoding, Encoded}
use Rattle.utf8.specs.Laws as utf8laws
use Rattle.record.specs.Record.{record_at, count, mark_ok}
use Rattle.grammar.specs.Grammar.{root}
use Rattle.tree.specs.Check.{Answer, Place, place, holds, fits, inside, swallows, misnames, deepest, faults_in, scan_in, longest, malformed, or_broken, answer_in, ChecksIn, number_of, place_of}
use Rattle.tree.specs.declared.Refusal.TheVariants.{Malformed, TooLong, Broken, Mark, Misfit, Outside, Unclosed, NotRowid, Deep, Ends}
use Rattle.tree.specs.Bounds.{Up}

-- a number of 01's table
pub number_small : (a : Answer) → number_of a < 16
number_small (Ok u) = omega arith
number_small (Err Malformed) = omega arith
number_small (Err TooLong) = omega arith
number_small (Err (Broken b)) = utf8laws.number_small (Err b)
number_small (Err (Mark i)) = omega arith
number_small (Err (Misfit i)) = omega arith
number_small (Err (Outside i)) = omega arith
number_small (Err (Unclosed i)) = omega arith
number_small (Err (NotRowid i)) = omega arith
number_small (Err (Deep i)) = omega arith
number_small (Err (Ends i)) = omega arith

either : (n : ℕ) (b : Bool) (a o : Answer) → Up n a → Up n o → Up n (cond b a o)
either n true a o p q = p
either n false a o p q = q

scan_place : (m : Mode) (t x : List ℕ) (n i : ℕ) (ps : List Place) → Up (i + n) (scan_in m t x n i ps)
unfolding scan_in faults_in
scan_place m t x zero i [] = omega arith
scan_place m t x zero i (p ∷ ps) = omega arith
scan_place m t x (suc n) i [] = omega arith
scan_place m t x (suc n) i (p ∷ ps) =
    let r = record_at t i in
    let rest = map (place (p.depth + 1)) (holds p.class r) ++ ps in
    let q = scan_place m t x n (i + 1) rest in
    let after : Up (i + suc n) (scan_in m t x n (i + 1) rest) = omega arith in
    either (i + suc n) (not (mark_ok r)) (Err (Mark i)) _ (omega arith)
    (either (i + suc n) (not (fits p.class r)) (Err (Misfit i)) _ (omega arith)
    (either (i + suc n) (not (inside x r)) (Err (Outside i)) _ (omega arith)
    (either (i + suc n) (m.strict && swallows x p.class r) (Err (Unclosed i)) _ (omega arith)
    (either (i + suc n) (is_sqlite m.edition && misnames x p.class r) (Err (NotRowid i)) _ (omega arith)
    (either (i + suc n) (ltb deepest p.depth) (Err (Deep i)) _ (omega arith) after)))))

-- ---- 1 and 2 come first, so what follows them is not over-long
neither : (a b : Bool) → (a || b) ≡ false → (a ≡ false) × (b ≡ false)
neither true b h = absurd (false≢true (sym h))
neither false b h = (refl, h)

pub tree_short : (t : List ℕ) → malformed t ≡ false → length t ≤ longest
unfolding malformed
tree_short t h =
    ltb-false longest (length t) (neither (ltb longest (length t)) _ (neither (eqb (length t) 0) _ h).1).0

or_broken_place : (x : List ℕ) (e : Encoding) (a : Answer) → Encoded x e → length x ≤ longest → place_of a ≤ longest → place_of (or_broken e a) ≤ longest
or_broken_place x (Ok u) a h l p = p
or_broken_place x (Err b) a h l p = omega (arith, utf8laws.place_within x (Err b) h)

module _ (m : Mode) (e : Encoding) (t x : List ℕ) where
  answer_place : Encoded x e → place_of (answer_in m e t x) ≤ longest
  unfolding answer_in
  answer_place h = by (malformed t) (ltb longest (length x)) refl refl
    where
      by : (f l : Bool) → malformed t ≡ f → ltb longest (length x) ≡ l
          → Up longest (cond f (Err Malformed) (cond l (Err TooLong) (or_broken e (scan_in m t x (count t) 0 (place 1 root ∷ [])))))
      by true l p q = omega arith
      by false true p q = omega arith
      by false false p q =
          or_broken_place x e _ h (ltb-false longest (length x) q) (omega (arith, scan_place m t x (count t) 0 (place 1 root ∷ []), tree_short t p))

  answer_short : number_of (answer_in m e t x) ≡ 0 → (length t ≤ longest) × (length x ≤ longest)
  unfolding answer_in
  answer_short = by (malformed t) (ltb longest (length x)) refl refl
    where
      by : (f l : Bool) → malformed t ≡ f → ltb longest (length x) ≡ l
          → number_of (cond f (Err Malformed) (cond l (Err TooLong) (or_broken e (scan_in m t x (count t) 0 (place 1 root ∷ []))))) ≡ 0
          → (length t ≤ longest) × (length x ≤ longest)
      by true l p q z = absurd (omega arith)
      by false true p q z = absurd (omega arith)
      by false false p q z = (tree_short t p, ltb-false longest (length x) q)

module _ {m : Mode} {t x : List ℕ} {a : Answer} (c : ChecksIn m t x a) where
  pub place_small : place_of a ≤ longest
  place_small = rw c.answers (answer_place m c.encoding t x c.encoded)

  pub admitted_short : number_of a ≡ 0 → (length t ≤ longest) × (length x ≤ longest)
  admitted_short z = answer_short m c.encoding t x (sym (ap number_of c.answers) ∙ z)
