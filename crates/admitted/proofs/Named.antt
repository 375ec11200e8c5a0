-- 02, xiii: "bytes nobody named". What a tree writes hangs on the parts of the text that its records name, and on no other byte, in both editions. One
-- induction over shapes: a shape reads a part only of a record that names it. It holds of every tree, admitted or not, and of texts of any length.
use Prim.Native.Nat.{ℕ, zero, suc}
use Rattle.std.specs.Prelude.{◌≡◌, ◌&&◌, eqb, leb}
use Rattle.std.proofs.Math.Path.{refl, ap, ap₂, fun_ext}
use Rattle.std.proofs.Common.{◌∙◌, eqb-true, ltb-true, ltb-false}
use mathlib.Core.List.{List, [], ◌∷◌, ◌++◌}
use Rattle.std.proofs.Math.Bool.{Bool, true, false, cond}
use Rattle.std.proofs.lemmas.Bool.{false≢true}
use Rattle.std.proofs.Math.Dec.{ltb}
use Rattle.laws.specs.Tests.{and_left, and_right}
use Rattle.stream.specs.Stream as stream
use Rattle.stream.specs.Stream.{Token}
use Rattle.stream.specs.Sink as sink
use Rattle.record.specs.Record.{record_at, count}
use Rattle.record.specs.Laws.{past}
use Rattle.grammar.specs.Kind.{NONE, LIST, TOKEN, TEXT, REPLACE}
use Rattle.grammar.specs.Shape.{Class, one, Shape, nothing, token, ident, word, said, line, when, is, slot, each, commas, row, lines, tuples, given, filled, replacing, decimal, brackets, quoted, rowid, source, both, later, ◌·◌}
use Rattle.grammar.specs.Grammar.{run, root, root_kinds, shape}
use Rattle.grammar.specs.Slots.{allowed}
use Rattle.tree.specs.Check.{has_part}
use Rattle.tokens.specs.Corners.{id, valued, newline, without, sourced, quote}
use Rattle.tokens.specs.Tokens.{in_edition, Out, behind, token_of, flagged, say, of, then, rows, listed, placed, of_kind, comma, bracketed, checked, means, leaf, node, deepest, whole, tokens_of, text_of}
use Rattle.grammar.specs.Entries.{entry}
use Rattle.mode.specs.declared.Edition.{Edition}
use Rattle.admitted.specs.Same.{joined}
use Rattle.admitted.specs.Watched.{whole_by}
use Rattle.admitted.specs.Named.{Agree, part_of}

-- ---- a record of kind k is itself a token only if it is a TOKEN, and its text is written only if it is a TEXT
suits : ℕ → Shape → Bool
suits k nothing = true
suits k token = eqb k TOKEN
suits k ident = eqb k TEXT
suits k (word w) = true
suits k (said s) = true
suits k (line w) = true
suits k (when bit a) = suits k a
suits k (is n a) = suits k a
suits k (slot c) = true
suits k (each c) = true
suits k (commas c) = true
suits k (row c) = true
suits k (lines c w) = true
suits k (tuples c) = true
suits k (given a) = suits k a
suits k (filled a) = suits k a
suits k (replacing a b) = suits k a && suits k b
suits k decimal = true
suits k brackets = true
suits k quoted = true
suits k rowid = true
suits k source = true
suits k (both a b) = suits k a && suits k b
suits k (later a b) = suits k a && suits k b
suits k (a · b) = suits k a && suits k b

suited : (k : ℕ) → suits k (shape k) ≡ true
unfolding suits
suited k = entry suits k refl refl

-- ---- one tree, two texts that agree
module _ (v : Edition) (t x y : List ℕ) (agree : Agree t x y) where
  part_same : (j : ℕ) → has_part (record_at t j) ≡ true → part_of x (record_at t j) ≡ part_of y (record_at t j)
  unfolding has_part
  part_same j h = by (ltb j (count t)) refl
    where
      by : (b : Bool) → ltb j (count t) ≡ b → part_of x (record_at t j) ≡ part_of y (record_at t j)
      by true q = agree.parts j (ltb-true j (count t) q) h
      by false q = absurd (false≢true (rw (past t j (ltb-false j (count t) q)) at h))

  text_part : (j : ℕ) → eqb (record_at t j).kind TEXT ≡ true → part_of x (record_at t j) ≡ part_of y (record_at t j)
  unfolding has_part
  text_part j e = part_same j (rw e)

  token_same : (j : ℕ) → eqb (record_at t j).kind TOKEN ≡ true → token_of (in_edition t x v) (record_at t j) ≡ token_of (in_edition t y v) (record_at t j)
  unfolding token_of has_part
  token_same j e = by (leb 0x8000 (record_at t j).flags) refl
    where
      made : Bool → List ℕ → Token
      made b w = record { kind = (token_of (in_edition t x v) (record_at t j)).kind; value = sink.given b w }

      by : (b : Bool) → leb 0x8000 (record_at t j).flags ≡ b → made b (part_of x (record_at t j)) ≡ made b (part_of y (record_at t j))
      by true q = ap (made true) (part_same j (rw (eqb-true (record_at t j).kind TOKEN e, q)))
      by false q = refl

  kind_same : (k j : ℕ) (ts us : List Token) → (eqb (record_at t j).kind k ≡ true → ts ≡ us) → of_kind (in_edition t x v) k j ts ≡ of_kind (in_edition t y v) k j us
  unfolding behind
  kind_same k j ts us h = ap (of (in_edition t x v) j) (by (eqb (record_at t j).kind k) h)
    where
      by : (b : Bool) → (b ≡ true → ts ≡ us) → cond b ts [] ≡ cond b us []
      by true p = p refl
      by false p = refl

  checked_same : (ts : List Token) (j : ℕ) → checked (in_edition t x v) ts j ≡ checked (in_edition t y v) ts j
  unfolding checked behind
  checked_same ts j = ap (of (in_edition t x v) j) (by (eqb (record_at t j).kind TEXT) (ltb 0 (record_at t j).len) (text_part j))
    where
      by : (b l : Bool) → (b ≡ true → part_of x (record_at t j) ≡ part_of y (record_at t j))
          → cond (b && l) (sourced (part_of x (record_at t j))) ts ≡ cond (b && l) (sourced (part_of y (record_at t j))) ts
      by true l p = ap (λ (v : List ℕ). cond l (sourced v) ts) (p refl)
      by false l p = refl

  run_same : (n j : ℕ) → rows (λ k. of_kind (in_edition t x v) TOKEN k (token_of (in_edition t x v) (record_at t k) ∷ [])) [] [] n j ≡ rows (λ k. of_kind (in_edition t y v) TOKEN k (token_of (in_edition t y v) (record_at t k) ∷ [])) [] [] n j
  run_same n j =
      ap (λ (f : ℕ → Out). rows f [] [] n j)
      (fun_ext (λ k. kind_same TOKEN k (token_of (in_edition t x v) (record_at t k) ∷ []) (token_of (in_edition t y v) (record_at t k) ∷ []) (λ e. ap (λ (v : Token). v ∷ []) (token_same k e))))

  listed_same : {f g : ℕ → Out} → f ≡ g → (sep : List Token) (j : ℕ) → listed (in_edition t x v) f sep j ≡ listed (in_edition t y v) g sep j
  unfolding listed behind
  listed_same p sep j = ap (λ (f : ℕ → Out). listed (in_edition t x v) f sep j) p

  -- where the records below write the same
  module _ (f g : ℕ → ℕ → Out) (below : (j : ℕ) → f (record_at t j).kind j ≡ g (record_at t j).kind j) where
    placed_same : (c : Class) → placed (in_edition t x v) f c ≡ placed (in_edition t y v) g c
    unfolding placed behind
    placed_same c = fun_ext (λ j. ap (λ (o : Out). cond (allowed c (record_at t j).kind) o (of (in_edition t x v) j [])) (below j))

    means_same : (i : ℕ) (s : Shape) (j : ℕ) → suits (record_at t i).kind s ≡ true → means (in_edition t x v) f (record_at t i) s j ≡ means (in_edition t y v) g (record_at t i) s j
    unfolding means suits behind
    means_same i nothing j h = refl
    means_same i token j h = ap (λ (v : Token). say (v ∷ []) j) (token_same i h)
    means_same i ident j h = ap (λ (v : List ℕ). say (id v ∷ []) j) (text_part i h)
    means_same i (word w) j h = refl
    means_same i (said s) j h = refl
    means_same i (line w) j h = refl
    means_same i (when bit a) j h = ap (λ (o : Out). cond (flagged bit (record_at t i)) o (say [] j)) (means_same i a j h)
    means_same i (is n a) j h = ap (λ (o : Out). cond (eqb (record_at t i).flags n) o (say [] j)) (means_same i a j h)
    means_same i (slot c) j h = ap (λ (p : ℕ → Out). p j) (placed_same c)
    means_same i (each c) j h = run_same (record_at t i).kids j
    means_same i (commas c) j h = listed_same (placed_same c) comma j
    means_same i (row c) j h = listed_same (placed_same c) [] j
    means_same i (lines c w) j h = listed_same (ap {B = ℕ → Out} (λ (p : ℕ → Out) k. then (p k) (say (valued w newline ∷ []))) (placed_same c)) [] j
    means_same i (tuples c) j h = listed_same (ap bracketed (fun_ext (λ k. listed_same (placed_same c) comma k))) comma j
    means_same i (given a) j h = ap (λ (o : Out). cond (eqb (record_at t j).kind NONE) (of (in_edition t x v) j []) o) (means_same i a j h)
    means_same i (filled a) j h = ap (λ (o : Out). cond (eqb (record_at t j).kids 0) (of (in_edition t x v) j []) o) (means_same i a j h)
    means_same i (replacing a b) j h =
        ap₂ (cond (eqb (record_at t j).kind REPLACE)) (means_same i a j (and_left (suits (record_at t i).kind a) _ h)) (means_same i b j (and_right (suits (record_at t i).kind a) _ h))
    means_same i decimal j h = refl
    means_same i brackets j h = refl
    means_same i quoted j h = kind_same TEXT j _ _ (λ e. ap (λ (w : List ℕ). quote v w ∷ []) (text_part j e))
    means_same i rowid j h = kind_same TEXT j _ _ (λ e. ap without (text_part j e))
    means_same i source j h =
        ap (λ (p : ℕ → Out). checked (in_edition t x v) (p j).tokens (p j).next) (placed_same run)
        ∙ checked_same (placed (in_edition t y v) g run j).tokens (placed (in_edition t y v) g run j).next
    means_same i (both a b) j h =
        ap₂ (joined v) (means_same i a j (and_left (suits (record_at t i).kind a) _ h)) (fun_ext (λ k. means_same i b k (and_right (suits (record_at t i).kind a) _ h)))
    means_same i (later a b) j h =
        ap₂ (λ (o : Out) (p : ℕ → Out). record { tokens = (p o.next).tokens ++ o.tokens; next = (p o.next).next })
        (means_same i a j (and_left (suits (record_at t i).kind a) _ h)) (fun_ext (λ k. means_same i b k (and_right (suits (record_at t i).kind a) _ h)))
    means_same i (a · b) j h = ap₂ then (means_same i a j (and_left (suits (record_at t i).kind a) _ h)) (fun_ext (λ k. means_same i b k (and_right (suits (record_at t i).kind a) _ h)))

    pub record_same : (j : ℕ) → means (in_edition t x v) f (record_at t j) (shape (record_at t j).kind) (behind (in_edition t x v) j) ≡ means (in_edition t y v) g (record_at t j) (shape (record_at t j).kind) (behind (in_edition t y v) j)
    unfolding behind
    record_same j = means_same j (shape (record_at t j).kind) (behind (in_edition t x v) j) (suited (record_at t j).kind)

    pub by_same : whole_by (in_edition t x v) f ≡ whole_by (in_edition t y v) g
    unfolding whole_by
    by_same = ap₂ (cond (eqb (record_at t 0).kind LIST)) (listed_same (placed_same (one root_kinds)) comma 0) (ap (λ (p : ℕ → Out). p 0) (placed_same root))

  node_same : (d j : ℕ) → node (in_edition t x v) d (record_at t j).kind j ≡ node (in_edition t y v) d (record_at t j).kind j
  unfolding node behind
  node_same zero j =
      ap (λ (o : Out). cond (leaf (record_at t j).kind) o (of (in_edition t x v) j [])) (record_same (λ l i. of (in_edition t x v) i []) (λ l i. of (in_edition t y v) i []) (λ i. refl) j)
  node_same (suc d) j = record_same (node (in_edition t x v) d) (node (in_edition t y v) d) (node_same d) j

  pub whole_same : (d : ℕ) → whole (in_edition t x v) d ≡ whole (in_edition t y v) d
  unfolding whole whole_by
  whole_same d = by_same (node (in_edition t x v) d) (node (in_edition t y v) d) (node_same d)

  -- the bytes are the same
  pub text_same : text_of (in_edition t x v) ≡ text_of (in_edition t y v)
  unfolding text_of tokens_of
  text_same = ap (λ (o : Out). stream.text true o.tokens) (whole_same deepest)
