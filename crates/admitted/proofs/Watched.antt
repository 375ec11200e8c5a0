-- The walk of tokens/Tokens over again, with two things left open: what is written of a record whose kind may not stand in its place,
-- which `u` says, and of a record below so many levels, which `f` says. `means` passes over the one, and `node` writes nothing of the other.
-- So where all u and f come to the same, neither was asked for.
use Prim.Native.Nat.{ℕ}
use Rattle.std.specs.Prelude.{◌≡◌, Bool, true, false, ◌&&◌, ◌||◌, eqb, ltb}
use Rattle.std.proofs.Math.Path.{refl, ap, ap₂, fun_ext}
use Rattle.std.proofs.Common.{◌∙◌, eqb-true}
use mathlib.Core.List.{List, [], ◌∷◌, ◌++◌, append-nil}
use Rattle.std.proofs.Math.Bool.{cond}
use Rattle.stream.specs.Stream.{Token}
use Rattle.record.specs.declared.Record.{Record}
use Rattle.grammar.specs.Kind.{NONE, LIST, TOKEN, TEXT, NUMBER, REPLACE}
use Rattle.grammar.specs.Shape.{Class, one, list, small, without_rowid, ruled, Shape, nothing, token, ident, word, said, line, when, is, slot, each, commas, row, lines, tuples, given, filled, replacing, decimal, brackets, quoted, rowid, source, both, later, ◌·◌}
use Rattle.grammar.specs.Grammar.{run, text, number, maybe, root, root_kinds}
use Rattle.grammar.specs.Slots.{slots_of, allowed}
use Rattle.tokens.specs.Corners.{valued, newline, sourced}
use Rattle.tokens.specs.Tokens.{Source, Out, at, behind, part, token_of, flagged, say, of, then, rows, listed, placed, of_kind, comma, bracketed, checked, means}
use Rattle.admitted.specs.Same.{joined}
use Rattle.admitted.specs.Watched.{in_place, left_out, token_place, child, items, behind_run, watched, watched_whole, passed, whole_by}

twice : {A : Type 0} (b : Bool) (x y : A) → cond b (cond b x y) y ≡ cond b x y
twice true x y = refl
twice false x y = refl

never_mind : {A : Type 0} (b : Bool) (x : A) → cond b x x ≡ x
never_mind true x = refl
never_mind false x = refl

module _ (e : Source) where
  left_passed : (cs : List Class) (j : ℕ) → left_out e (passed e) cs j ≡ of e j []
  unfolding left_out in_place
  left_passed [] j = refl
  left_passed (c ∷ cs) j = never_mind (allowed c (at e j).kind) (of e j [])

  -- where a kind may stand in the place, what is of that kind alone is passed over with it
  kind_passed : (c : Class) (k : ℕ) (ts : List Token) (j : ℕ) → allowed c k ≡ true → cond (allowed c (at e j).kind) (of_kind e k j ts) (of e j []) ≡ of_kind e k j ts
  kind_passed c k ts j a = by (eqb (at e j).kind k) refl
    where
      by : (b : Bool) → eqb (at e j).kind k ≡ b → cond (allowed c (at e j).kind) (of e j (cond b ts [])) (of e j []) ≡ of e j (cond b ts [])
      by true q = rw (eqb-true (at e j).kind k q, a)
      by false q = never_mind (allowed c (at e j).kind) (of e j [])

  items_passed : (f : ℕ → ℕ → Out) (c : Class) (g : ℕ → Out) (sep : List Token) → items e (passed e) f c g sep ≡ listed e g sep
  unfolding items in_place listed allowed
  items_passed f c g sep = fun_ext (λ j. twice (eqb (at e j).kind LIST) (rows g [] sep (at e j).kids (behind e j)) (of e j []))

  behind_passed : (f : ℕ → ℕ → Out) (o : Out) → behind_run e (passed e) f o ≡ checked e o.tokens o.next
  unfolding behind_run in_place checked allowed
  behind_passed f o = by (eqb (at e o.next).kind NONE) (eqb (at e o.next).kind TEXT) (ltb 0 (at e o.next).len)
    where
      x : List Token
      x = sourced (part e (at e o.next))

      by : (n t l : Bool) → cond (n || t) (of e o.next (cond (t && l) x o.tokens)) (then o (passed e)) ≡ of e o.next (cond (t && l) x o.tokens)
      by true t l = refl
      by false true l = refl
      by false false l = rw (append-nil o.tokens)

  module _ (f : ℕ → ℕ → Out) where
    child_passed : (c : Class) → child e (passed e) f c ≡ placed e f c
    unfolding child in_place placed
    child_passed c = fun_ext (λ j. twice (allowed c (at e j).kind) (f (at e j).kind j) (of e j []))

    pub watched_passed : (r : Record) (s : Shape) (j : ℕ) → watched e (passed e) f r s j ≡ means e f r s j
    unfolding watched means in_place allowed
    watched_passed r nothing j = refl
    watched_passed r token j = refl
    watched_passed r ident j = refl
    watched_passed r (word w) j = refl
    watched_passed r (said s) j = refl
    watched_passed r (line w) j = refl
    watched_passed r (when bit a) j = ap (λ (o : Out). cond (flagged bit r) o (say [] j)) (watched_passed r a j)
    watched_passed r (is n a) j = ap (λ (o : Out). cond (eqb r.flags n) o (say [] j)) (watched_passed r a j)
    watched_passed r (slot c) j = ap (λ (p : ℕ → Out). p j) (child_passed c)
    watched_passed r (each c) j =
        ap (λ (p : ℕ → Out). rows p [] [] r.kids j) (fun_ext (λ k. kind_passed token_place TOKEN (token_of e (at e k) ∷ []) k refl))
    watched_passed r (commas c) j = ap (λ (p : ℕ → Out). p j) (items_passed f c (child e (passed e) f c) comma ∙ ap (λ (p : ℕ → Out). listed e p comma) (child_passed c))
    watched_passed r (row c) j = ap (λ (p : ℕ → Out). p j) (items_passed f c (child e (passed e) f c) [] ∙ ap (λ (p : ℕ → Out). listed e p []) (child_passed c))
    watched_passed r (lines c w) j =
        ap (λ (p : ℕ → Out). p j)
        (items_passed f c (λ k. then (child e (passed e) f c k) (say (valued w newline ∷ []))) []
        ∙ ap (λ (p : ℕ → Out). listed e (λ k. then (p k) (say (valued w newline ∷ []))) []) (child_passed c))
    watched_passed r (tuples c) j =
        ap (λ (p : ℕ → Out). p j)
        (items_passed f (list c) (bracketed (items e (passed e) f c (child e (passed e) f c) comma)) comma
        ∙ ap (λ (p : ℕ → Out). listed e (bracketed p) comma) (items_passed f c (child e (passed e) f c) comma ∙ ap (λ (p : ℕ → Out). listed e p comma) (child_passed c)))
    watched_passed r (given a) j = ap₂ (cond (eqb (at e j).kind NONE)) (left_passed (slots_of a) j) (watched_passed r a j)
    watched_passed r (filled a) j = ap₂ (cond (eqb (at e j).kids 0)) (left_passed (slots_of a) j) (watched_passed r a j)
    watched_passed r (replacing a b) j = ap₂ (cond (eqb (at e j).kind REPLACE)) (watched_passed r a j) (watched_passed r b j)
    watched_passed r decimal j = kind_passed (maybe number) NUMBER _ j refl
    watched_passed r brackets j = kind_passed small NUMBER _ j refl
    watched_passed r quoted j = kind_passed text TEXT _ j refl
    watched_passed r rowid j = kind_passed (ruled without_rowid) TEXT _ j refl
    watched_passed r source j =
        behind_passed f (child e (passed e) f run j) ∙ ap (λ (p : ℕ → Out). checked e (p j).tokens (p j).next) (child_passed run)
    watched_passed r (both a b) j = ap₂ (joined e.edition) (watched_passed r a j) (fun_ext (watched_passed r b))
    watched_passed r (later a b) j =
        ap₂ (λ (o : Out) (p : ℕ → Out). record { tokens = (p o.next).tokens ++ o.tokens; next = (p o.next).next })
        (watched_passed r a j) (fun_ext (watched_passed r b))
    watched_passed r (a · b) j = ap₂ then (watched_passed r a j) (fun_ext (watched_passed r b))

    pub whole_passed : watched_whole e (passed e) f ≡ whole_by e f
    unfolding watched_whole whole_by
    whole_passed =
        ap₂ (λ (p q : ℕ → Out). cond (eqb (at e 0).kind LIST) (listed e p comma 0) (q 0)) (child_passed (one root_kinds)) (child_passed root)
