-- Laws of the whole-tree calls: what each way through them comes to, that no two outcomes satisfy a contract, and that a place is small.
use Rattle.std.specs.Prelude.{ℕ, ◌+◌, ◌^◌, ◌≤◌, ◌<◌, List, ◌++◌, Bool, ltb, get_or, take, drop, Ok, Err}
use Rattle.std.proofs.Common.{arith, ◌∙◌, ap, sym}
use Rattle.std.proofs.Math.Nat.{zero-add}
use Rattle.std.proofs.Math.Path.{◌≡◌, refl}
use Rattle.std.proofs.Math.Bool.{true, false, cond}
use Rattle.std.proofs.Math.ListN.{length}
use Rattle.std.proofs.lemmas.List.Edits.{sets}
use Rattle.std.proofs.Math.Seq.{sets-eq, length-sets, take-length, take-append_seam}
use borrow.Author.Tests.{lt-ltb, le-ltb, ltb-false}
use Rattle.mode.specs.declared.Edition.{Edition}
use Rattle.mode.specs.declared.Mode.{Mode}
use Rattle.spelling.specs.Table.{bytes}
use Rattle.stream.specs.Sink.{State, most}
use Rattle.stream.specs.Laws.{count_fits}
use Rattle.tree.specs.Check.{Answer, Admitted, ChecksIn}
use Rattle.tree.specs.declared.Refusal.{Refusal}
use Rattle.tree.proofs.Whole as whole
use Rattle.tree.proofs.Bounds.{place_small, admitted_short, number_small as tree-number-small}
use Rattle.tokens.specs.Tokens.{tokens_of}
use Rattle.tokens.proofs.Bound.{text_fits}
use Rattle.tokens.specs.Tokens.{in_edition}
use Rattle.pen.specs.Pen.{emit}
use Rattle.pen.specs.Emit.{fresh, text_counted, text_stored}
use Rattle.render.specs.declared.Refusal.TheVariants.{Tree, NoRoom}
use Rattle.render.specs.Render.{Outcome, text_in, or_refused, measured, rendered, output_after, MeasuresIn, RendersIn, number_of, place_of}
use Rattle.render.specs.Steps.{counted, Writes, Drafted}

-- ---- the tokens of a tree, written by a fresh sink, are its text
pub writes : (v : Edition) (t x w out : List ℕ) (st : State) → w ≡ bytes → length out ≤ most → st ≡ emit w (fresh, out) (tokens_of (in_edition t x v)) → Writes v t x out st.0.at st.1
unfolding counted
writes v t x w out st pool room e =
    record {
      counts = ap (λ (s : State). s.0.at) e ∙ text_counted w out (in_edition t x v) pool room;
      stores = ap (λ (s : State). s.1) e ∙ text_stored w out (in_edition t x v) pool room;
    }

-- ---- the ways through measure, by the check's answer
pub refused : {mode : Mode} {t x : List ℕ} (r : Refusal) → ChecksIn mode t x (Err r) → MeasuresIn mode t x (Err (Tree r))
unfolding measured
refused r c = record { answer = Err r; checks = c; answers = refl }

module _ {mode : Mode} {t x : List ℕ} (c : ChecksIn mode t x Admitted) (inBytes : (k : ℕ) → get_or t k 0 < 256) where
  -- a text that is admitted is short
  text_short : length (text_in mode.edition t x) < 2 ^ 32
  text_short =
      let s = admitted_short c refl in
      text_fits (in_edition t x mode.edition) (record { tree = s.0; bytes = inBytes; text = s.1 })

  -- so the count is its length
  pub measured_all : (n : ℕ) → n ≡ counted mode.edition t x → MeasuresIn mode t x (Ok n)
  unfolding measured counted
  measured_all n e =
      let l = length (text_in mode.edition t x) in
      let s = text_short in
      let q : n ≡ l = e ∙ count_fits 0 l (omega arith) ∙ zero-add l in
      record { answer = Admitted; checks = c; answers = rw q }

-- ---- the draft, and the copy of it
pub drafted : (v : Edition) (t x d d' : List ℕ) → d' ≡ sets d 0 (text_in v t x) → Drafted v t x d'
drafted v t x d d' e h =
    let text = text_in v t x in
    let l : length d' ≡ length d = ap length e ∙ length-sets d 0 text in
    rw (e, sets-eq text d 0 (omega arith)) (take-append_seam text (drop (0 + length text) d))

pub copied : (v : Edition) (t x out d out' : List ℕ) (n : ℕ) → n ≡ length (text_in v t x) → n ≤ length out → n ≤ length d → Drafted v t x d
    → out' ≡ take n (take n d) ++ drop n out → out' ≡ sets out 0 (text_in v t x)
copied v t x out d out' n l h i begins e =
    let text = text_in v t x in
    rw (e, sets-eq text out 0 (omega arith), zero-add, l, begins (omega arith), take-length text)

-- ---- the ways through render, by what measure comes to
module _ {mode : Mode} {t x : List ℕ} (out : List ℕ) where
  -- a refusal stays one
  pub kept : {o : Outcome} → ((n : ℕ) → o ≡ Ok n → ⊥) → MeasuresIn mode t x o → RendersIn mode t x out o out
  unfolding measured rendered output_after
  kept {o} other m = by m.answer m.checks m.answers
    where
      by : (a : Answer) → ChecksIn mode t x a → o ≡ or_refused a (Ok (length (text_in mode.edition t x))) → RendersIn mode t x out o out
      by (Err r) c e = record { answer = Err r; checks = c; answers = e; writes = rw e }
      by (Ok u) c e = absurd (other (length (text_in mode.edition t x)) e)

  module _ {n : ℕ} (m : MeasuresIn mode t x (Ok n)) where
    -- the check passed, and the number is the length
    admitted : ChecksIn mode t x Admitted × (n ≡ length (text_in mode.edition t x))
    unfolding measured
    admitted = by m.answer m.checks m.answers
      where
        by : (a : Answer) → ChecksIn mode t x a → Ok n ≡ or_refused a (Ok (length (text_in mode.edition t x))) → ChecksIn mode t x Admitted × (n ≡ length (text_in mode.edition t x))
        by (Err r) c e = absurd (cc)
        by (Ok u) c e = (c, cc)

    pub no_room : length out < n → RendersIn mode t x out (Err (NoRoom n)) out
    unfolding rendered output_after
    no_room h =
        let p = admitted in
        record { answer = Admitted; checks = p.0; answers = rw (← p.1, lt-ltb (length out) n h); writes = refl }

    -- the number is the length
    pub length_is : n ≡ length (text_in mode.edition t x)
    length_is = admitted.1

    pub written : {out' : List ℕ} → n ≤ length out → out' ≡ sets out 0 (text_in mode.edition t x) → RendersIn mode t x out (Ok n) out'
    unfolding rendered output_after
    written h w =
        let p = admitted in
        let fits : length (text_in mode.edition t x) ≤ length out = omega (arith, p.1) in
        record {
          answer = Admitted;
          checks = p.0;
          answers = rw (← p.1, le-ltb (length out) n h);
          writes = rw (p.1, w, sets-eq (text_in mode.edition t x) out 0 (omega arith), zero-add);
        }

-- ---- no two outcomes satisfy the contract
pub measures_unique : (mode : Mode) (t x : List ℕ) (o p : Outcome) → MeasuresIn mode t x o → MeasuresIn mode t x p → o ≡ p
measures_unique mode t x o p f g =
    let q = whole.unique mode t x f.answer g.answer f.checks g.checks in
    f.answers ∙ ap (λ (a : Answer). measured a (text_in mode.edition t x)) q ∙ sym g.answers

pub renders_unique : (mode : Mode) (t x out : List ℕ) (o p : Outcome) (l m : List ℕ) → RendersIn mode t x out o l → RendersIn mode t x out p m → (o ≡ p) × (l ≡ m)
renders_unique mode t x out o p l m f g =
    let text = text_in mode.edition t x in
    let q = whole.unique mode t x f.answer g.answer f.checks g.checks in
    let s : o ≡ p = f.answers ∙ ap (λ (a : Answer). rendered a (length out) text) q ∙ sym g.answers in
    (s, f.writes ∙ ap (λ (u : Outcome). output_after u text out) s ∙ sym g.writes)

-- ---- a number is one of 01's, and a place is far below 2^32, so that the two can be told apart in one number
pub number_small : (o : Outcome) → number_of o < 16
number_small (Ok n) = omega arith
number_small (Err (Tree r)) = tree-number-small (Err r)
number_small (Err (NoRoom n)) = omega arith

abbrev Small : Outcome → Type 0
Small o = place_of o < 2 ^ 32

-- the check's refusal, or what an admitted text comes to
refused_or : {mode : Mode} {t x : List ℕ} (a : Answer) → ChecksIn mode t x a → ((k : ℕ) → get_or t k 0 < 256) → (o : Outcome) → (length (text_in mode.edition t x) < 2 ^ 32 → Small o) → Small (or_refused a o)
refused_or (Ok u) c inBytes o h = h (text_short c inBytes)
refused_or (Err r) c inBytes o h = omega (arith, place_small c)

module _ {mode : Mode} {t x : List ℕ} {a : Answer} (c : ChecksIn mode t x a) (inBytes : (k : ℕ) → get_or t k 0 < 256) where
  measured_small : Small (measured a (text_in mode.edition t x))
  unfolding measured
  measured_small = refused_or a c inBytes (Ok (length (text_in mode.edition t x))) (λ h. h)

  pub rendered_small : (size : ℕ) → Small (rendered a size (text_in mode.edition t x))
  unfolding rendered
  rendered_small size = refused_or a c inBytes _ (λ h. by h (ltb size (length (text_in mode.edition t x))))
    where
      by : length (text_in mode.edition t x) < 2 ^ 32 → (b : Bool) → Small (cond b (Err (NoRoom (length (text_in mode.edition t x)))) (Ok (length (text_in mode.edition t x))))
      by h true = h
      by h false = h

pub measures_small : {mode : Mode} {t x : List ℕ} {o : Outcome} → ((k : ℕ) → get_or t k 0 < 256) → MeasuresIn mode t x o → place_of o < 2 ^ 32
measures_small b m = rw m.answers (measured_small m.checks b)

-- ---- what was written fits the output
pub done_fits : {mode : Mode} {t x out out' : List ℕ} {n : ℕ} → RendersIn mode t x out (Ok n) out' → n ≤ length out
unfolding rendered
done_fits {mode} {t} {x} {out} {out'} {n} r = by r.answer (ltb (length out) (length (text_in mode.edition t x))) refl r.answers
  where
    by : (a : Answer) (b : Bool) → ltb (length out) (length (text_in mode.edition t x)) ≡ b
        → Ok n ≡ or_refused a (cond b (Err (NoRoom (length (text_in mode.edition t x)))) (Ok (length (text_in mode.edition t x)))) → n ≤ length out
    by (Err e) b q h = absurd (cc)
    by (Ok u) true q h = absurd (cc)
    by (Ok u) false q h = let z : n ≡ length (text_in mode.edition t x) = cc in omega (arith, ltb-false (length out) (length (text_in mode.edition t x)) q)
