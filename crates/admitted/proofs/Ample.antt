-- The text of a tree that the check admits is not longer than `ample_for` of its tree, a number that one pass over the records comes to.
-- The scan takes a place off its list at each record and puts as many on as the record has children. It starts with one place, the root's, and
-- ends with none, so the children of all records are one fewer than the records. And each record that fits pays for its words `own` itself
-- and `each_slot` for each child, since it has as many children as its entry has slots.
use Prim.Native.Nat.{ℕ, zero, suc, ◌+◌, ◌*◌, ◌≤◌, ◌<◌}
use native.Mathlib.Omega.{arith}
use Rattle.std.specs.Prelude.{◌≡◌, refl, Bool, true, false, not, cond, ◌&&◌, eqb, ltb, length, get_or, Ok, Err}
use Rattle.std.proofs.Common.{◌∙◌, ap, sym, eqb-true}
use mathlib.Core.List.{List, [], ◌∷◌, ◌++◌, map}
use Rattle.std.proofs.lemmas.Bool.{eqb-false, not-false}
use Rattle.mode.specs.Options.{is_sqlite}
use Rattle.mode.specs.declared.Mode.{Mode}
use Rattle.mode.specs.declared.Edition.{Edition}
use Rattle.utf8.specs.Rfc3629.{Encoding}
use Rattle.utf8.specs.Laws.{number_broken}
use Rattle.record.specs.Record.{record_at, count, mark_ok}
use Rattle.record.specs.declared.Record.{Record}
use Rattle.grammar.specs.Kind.{LIST, RUN}
use Rattle.grammar.specs.Shape.{Class}
use Rattle.grammar.specs.Grammar.{root, shape}
use Rattle.tree.specs.Check.{Answer, Place, place, holds, fits, inside, swallows, misnames, deepest, faults_in, scan_in, malformed, longest, or_broken, answer_in, ChecksIn, number_of}
use Rattle.tree.proofs.Steps.{kids_are}
use Rattle.tree.specs.declared.Refusal.TheVariants.{Malformed, TooLong, Mark, Misfit, Outside, Unclosed, NotRowid, Deep}
use Rattle.tokens.specs.Tokens.{Source, in_edition, part, text_of}
use Rattle.tokens.specs.Ample.{sum_next, lengths, ample_for}
use Rattle.tokens.specs.Weights.{base, around, own, each_slot, shape_affordable, cut_short}
use Rattle.tokens.specs.Bound.{pays, paid}
use Rattle.tokens.proofs.Bound.{text_paid}
use Rattle.admitted.proofs.Fills.{slots_hold}
use Rattle.admitted.specs.Ample.{Counted, Fit, children}

-- ---- what is admitted is refused for nothing
passes : (b : Bool) (a o : Answer) → (b ≡ true → number_of a ≡ 0 → ⊥) → number_of (cond b a o) ≡ 0 → (b ≡ false) × (number_of o ≡ 0)
passes true a o apart z = absurd (apart refl z)
passes false a o apart z = (refl, z)

length_places : (d : ℕ) (cs : List Class) (ps : List Place) → length (map (place d) cs ++ ps) ≡ length cs + length ps
length_places d [] ps = omega arith
length_places d (c ∷ cs) ps = omega (arith, length_places d cs ps)

-- a record before a row of records
counts_on : (t : List ℕ) (n i d : ℕ) (c : Class) (ps : List Place) → fits c (record_at t i) ≡ true → Counted t n (i + 1) (map (place (d + 1)) (holds c (record_at t i)) ++ ps)
    → Counted t (suc n) i (place d c ∷ ps)
counts_on t n i d c ps f rest =
    let z : i + 1 + n ≡ i + suc n = omega arith in
    record {
      counts =
          omega (arith, rest.counts, ap (children t) z, sum_next (λ r. r.kids) t i, kids_are c (record_at t i) f, length_places (d + 1) (holds c (record_at t i)) ps);
      each = λ j l h. by j l h (eqb j i) refl;
    }
  where
    by : (j : ℕ) → i ≤ j → j < i + suc n → (b : Bool) → eqb j i ≡ b → Fit (record_at t j)
    by j l h true q = record { class = c; fit = rw (eqb-true j i q) f }
    by j l h false q = let apart = eqb-false j i q in rest.each j (omega arith) (omega arith)

-- a text that is broken is refused
unbroken : (e : Encoding) (a : Answer) → number_of (or_broken e a) ≡ 0 → number_of a ≡ 0
unbroken (Ok u) a z = z
unbroken (Err b) a z = absurd (number_broken b z)

module _ (m : Mode) (t x : List ℕ) where
  scan_counts : (n i : ℕ) (ps : List Place) → number_of (scan_in m t x n i ps) ≡ 0 → Counted t n i ps
  unfolding scan_in faults_in
  scan_counts zero i [] z = let e : i + 0 ≡ i = omega arith in record { counts = rw e; each = λ j l h. absurd (omega arith) }
  scan_counts zero i (p ∷ ps) z = absurd (omega arith)
  scan_counts (suc n) i [] z = absurd (omega arith)
  scan_counts (suc n) i (p ∷ ps) z =
      let r = record_at t i in
      let c = p.class in
      let mark = passes (not (mark_ok r)) (Err (Mark i)) _ (λ _ q. omega arith) z in
      let misfit = passes (not (fits c r)) (Err (Misfit i)) _ (λ _ q. omega arith) mark.1 in
      let outside = passes (not (inside x r)) (Err (Outside i)) _ (λ _ q. omega arith) misfit.1 in
      let unclosed = passes (m.strict && swallows x c r) (Err (Unclosed i)) _ (λ _ q. omega arith) outside.1 in
      let other = passes (is_sqlite m.edition && misnames x c r) (Err (NotRowid i)) _ (λ _ q. omega arith) unclosed.1 in
      let deep = passes (ltb deepest p.depth) (Err (Deep i)) _ (λ _ q. omega arith) other.1 in
      counts_on t n i p.depth c ps (not-false (fits c r) misfit.0) (scan_counts n (i + 1) _ deep.1)

  -- 1, 2 and the encoding come before the records
  answer_counts : (e : Encoding) → number_of (answer_in m e t x) ≡ 0 → Counted t (count t) 0 (place 1 root ∷ [])
  unfolding answer_in
  answer_counts e z =
      let mal = passes (malformed t) (Err Malformed) _ (λ _ q. omega arith) z in
      let long = passes (ltb longest (length x)) (Err TooLong) _ (λ _ q. omega arith) mal.1 in
      scan_counts (count t) 0 (place 1 root ∷ []) (unbroken e _ long.1)

-- ---- what a record that fits pays: a LIST for its elements, a RUN nothing, and the others for the words of their entries
fit_pays : (e : Source) (r : Record) → Fit r → pays e r ≤ own + each_slot * r.kids + 2 * r.len
unfolding pays base shape
fit_pays e r f = by (eqb r.kind LIST) (eqb r.kind RUN) refl refl
  where
    short : length (part e r) ≤ r.len
    short = (cut_short r.len r.start e.text).0

    by : (l s : Bool) → eqb r.kind LIST ≡ l → eqb r.kind RUN ≡ s
        → cond l (around * r.kids) ((base (shape r.kind)).words + 2 * length (part e r)) ≤ own + each_slot * r.kids + 2 * r.len
    by true s p q = omega arith
    by false true p q = rw (eqb-true r.kind RUN q) (omega (arith, short))
    by false false p q =
        omega (arith, short, (shape_affordable r.kind).paid, kids_are f.class r f.fit, ap length (slots_hold f.class r p q))

module _ (e : Source) (n : ℕ) (fit : (j : ℕ) → j < n → Fit (record_at e.tree j)) where
  all_pay : (k : ℕ) → k ≤ n → paid e k ≤ own * k + each_slot * children e.tree k + 2 * lengths e.tree k
  all_pay zero h = omega arith
  all_pay (suc k) h = omega (arith, all_pay k (omega arith), fit_pays e (record_at e.tree k) (fit k (omega arith)))

-- ---- a tree that the check admits, in any mode
module _ {m : Mode} {t x : List ℕ} {a : Answer} (c : ChecksIn m t x a) (admitted : number_of a ≡ 0) where
  counted : Counted t (count t) 0 (place 1 root ∷ [])
  counted = answer_counts m t x c.encoding (sym (ap number_of c.answers) ∙ admitted)

  -- each record but the root is one child of one record
  pub one_parent : children t (count t) + 1 ≡ count t
  one_parent = let z : 0 + count t ≡ count t = omega arith in omega (arith, counted.counts, ap (children t) z)

  -- its text, in any edition, is not longer than this
  pub ample : (v : Edition) → ((k : ℕ) → get_or t k 0 < 256) → length (text_of (in_edition t x v)) ≤ ample_for t
  unfolding ample_for
  ample v inBytes =
      let e = in_edition t x v in
      omega (arith, text_paid e inBytes, all_pay e (count t) (λ j h. counted.each j (omega arith) (omega arith)) (count t) (omega arith), one_parent)
