-- The walk of tokens/Tokens over again, with two things left open: what is written of a record whose kind may not stand in its place,
-- which `u` says, and of a record below so many levels, which `f` says. `means` passes over the one, and `node` writes nothing of the other.
-- So where all u and f come to the same, neither was asked for.
use Prim.Native.Nat.{ℕ, zero, suc}
use Rattle.std.specs.Prelude.{eqb}
use mathlib.Core.List.{List, [], ◌∷◌, ◌++◌}
use Rattle.std.proofs.Math.Bool.{cond}
use Rattle.stream.specs.Stream.{Token}
use Rattle.record.specs.declared.Record.{Record}
use Rattle.grammar.specs.Kind.{NONE, LIST, TOKEN, REPLACE}
use Rattle.grammar.specs.Shape.{Class, one, list, small, check_source, without_rowid, ruled, Shape, nothing, token, ident, word, said, line, when, is, slot, each, commas, row, lines, tuples, given, filled, replacing, decimal, brackets, quoted, rowid, source, both, later, ◌·◌}
use Rattle.grammar.specs.Grammar.{run, text, number, maybe, root, root_kinds, shape}
use Rattle.grammar.specs.Slots.{slots_of, allowed}
use Rattle.tokens.specs.Corners.{valued, newline}
use Rattle.tokens.specs.Tokens.{Source, Out, at, behind, token_of, flagged, say, of, then, rows, listed, placed, of_kind, comma, bracketed, checked, means}
use Rattle.admitted.specs.Same.{joined}

-- f, if the kind of the record at j may stand in the place c
unfoldable pub in_place : Source → (ℕ → Out) → Class → (ℕ → Out) → ℕ → Out
in_place e u c f j = cond (allowed c (at e j).kind) (f j) (u j)

-- a child that is left out, where these places are held
unfoldable pub left_out : Source → (ℕ → Out) → List Class → ℕ → Out
left_out e u [] j = of e j []
left_out e u (c ∷ cs) j = in_place e u c (λ k. of e k []) j

abbrev pub token_place : Class
token_place = one (TOKEN ∷ [])

module _ (e : Source) (u : ℕ → Out) (f : ℕ → ℕ → Out) where
  -- a record in the place c
  unfoldable pub child : Class → ℕ → Out
  child c j = in_place e u c (placed e f c) j

  -- a LIST of records in the place c, each as g says
  unfoldable pub items : Class → (ℕ → Out) → List Token → ℕ → Out
  items c g sep j = in_place e u (list c) (listed e g sep) j

  -- a CHECK's expression, written, with its source behind it
  unfoldable pub behind_run : Out → Out
  behind_run o = in_place e (λ k. then o u) (ruled check_source) (checked e o.tokens) o.next

  -- `means`, clause by clause
  unfoldable pub watched : Record → Shape → ℕ → Out
  watched r nothing j = means e f r nothing j
  watched r token j = means e f r token j
  watched r ident j = means e f r ident j
  watched r (word w) j = means e f r (word w) j
  watched r (said s) j = means e f r (said s) j
  watched r (line w) j = means e f r (line w) j
  watched r (when bit a) j = cond (flagged bit r) (watched r a j) (say [] j)
  watched r (is n a) j = cond (eqb r.flags n) (watched r a j) (say [] j)
  watched r (slot c) j = child c j
  watched r (each c) j = rows (in_place e u token_place (λ k. of_kind e TOKEN k (token_of e (at e k) ∷ []))) [] [] r.kids j
  watched r (commas c) j = items c (child c) comma j
  watched r (row c) j = items c (child c) [] j
  watched r (lines c w) j = items c (λ k. then (child c k) (say (valued w newline ∷ []))) [] j
  watched r (tuples c) j = items (list c) (bracketed (items c (child c) comma)) comma j
  watched r (given a) j = cond (eqb (at e j).kind NONE) (left_out e u (slots_of a) j) (watched r a j)
  watched r (filled a) j = cond (eqb (at e j).kids 0) (left_out e u (slots_of a) j) (watched r a j)
  watched r (replacing a b) j = cond (eqb (at e j).kind REPLACE) (watched r a j) (watched r b j)
  watched r decimal j = in_place e u (maybe number) (means e f r decimal) j
  watched r brackets j = in_place e u small (means e f r brackets) j
  watched r quoted j = in_place e u text (means e f r quoted) j
  watched r rowid j = in_place e u (ruled without_rowid) (means e f r rowid) j
  watched r source j = behind_run (child run j)
  watched r (both a b) j = joined e.edition (watched r a j) (watched r b)
  watched r (later a b) j =
      record { tokens = (watched r b (watched r a j).next).tokens ++ (watched r a j).tokens; next = (watched r b (watched r a j).next).next }
  watched r (a · b) j = then (watched r a j) (watched r b)

  -- a whole tree
  unfoldable pub watched_whole : Out
  watched_whole = cond (eqb (at e 0).kind LIST) (listed e (child (one root_kinds)) comma 0) (child root 0)

-- n levels of records, and whatever f says of those below
unfoldable pub levels : Source → (ℕ → Out) → (ℕ → ℕ → Out) → ℕ → ℕ → ℕ → Out
levels e u f zero k j = f k j
levels e u f (suc n) k j = watched e u (levels e u f n) (at e j) (shape k) (behind e j)

-- ---- where a record that may not stand in its place is passed over, this is `means`
abbrev pub passed : Source → ℕ → Out
passed e j = of e j []

-- a whole tree, where f says what a record of a kind writes
unfoldable pub whole_by : Source → (ℕ → ℕ → Out) → Out
whole_by e f = cond (eqb (at e 0).kind LIST) (listed e (placed e f (one root_kinds)) comma 0) (placed e f root 0)
