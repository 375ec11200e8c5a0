-- The tokens of a tree without a depth: what each record writes is what its shape makes of what the records below it write.
-- A record's children stand behind it, so what it writes hangs on later records alone: by induction from the end of the tree on, no two
-- functions satisfy that, and with as many levels as there are records one does. This holds of every tree, admitted or not.
use Prim.Native.Nat.{ℕ, zero, suc, ◌+◌, ◌≤◌}
use native.Mathlib.Omega.{arith}
use Rattle.std.specs.Prelude.{◌≡◌, Bool, true, false, eqb, ltb}
use Rattle.std.proofs.Math.Path.{refl}
use Rattle.std.proofs.Common.{◌∙◌, sym, ltb-true, ltb-false}
use mathlib.Core.List.{List, [], ◌∷◌}
use Rattle.stream.specs.Stream.{Token}
use Rattle.spelling.specs.Token.{TK_LP, TK_RP}
use Rattle.record.specs.Record.{count}
use Rattle.record.specs.Laws.{past}
use Rattle.record.specs.declared.Record.{Record}
use Rattle.grammar.specs.Kind.{NONE, LIST, TOKEN, REPLACE}
use Rattle.grammar.specs.Shape.{Class, Shape, nothing, token, ident, word, said, line, when, is, slot, each, commas, row, lines, tuples, given, filled, replacing, decimal, brackets, quoted, rowid, source, both, later, ◌·◌}
use Rattle.grammar.specs.Grammar.{run, shape}
use Rattle.grammar.specs.Slots.{allowed}
use Rattle.tokens.specs.Corners.{bare, valued, newline}
use Rattle.tokens.specs.Tokens.{Source, Out, at, behind, token_of, flagged, say, of, then, listed, placed, of_kind, comma, bracketed, means, node}
use Rattle.admitted.specs.Same.{Same}
use Rattle.admitted.proofs.Same.{says, ofs, either, thens, boths, laters, checks, rows_same}
use Rattle.admitted.proofs.Fills.{behind_there}
use Rattle.admitted.specs.Solved.{Amid, Solves}

module _ (e : Source) where
  lower : {low m : ℕ} {o p : Out} → Same (Amid e m) o p → low ≤ m → Same (Amid e low) o p
  lower a h = record { is = a.is; on = (omega arith, a.on.1) }

  next_amid : {low : ℕ} (j : ℕ) → Amid e low j → Amid e low (behind e j)
  unfolding behind
  next_amid j h = (omega arith, omega arith)

  -- ---- all shapes, where the records from low on write the same
  module _ (low : ℕ) where
    passes : (ts : List Token) (j : ℕ) → Amid e low j → Same (Amid e low) (of e j ts) (of e j ts)
    passes ts j h = ofs e ts j (next_amid j h)

    module _ (f g : ℕ → Out) (each-one : (k : ℕ) → Amid e low k → Same (Amid e low) (f k) (g k)) where
      listed_alike : (sep : List Token) (j : ℕ) → Amid e low j → Same (Amid e low) (listed e f sep j) (listed e g sep j)
      unfolding listed
      listed_alike sep j h =
          either (eqb (at e j).kind LIST) (λ q. rows_same (λ n. Amid e low) f g (λ n. each-one) [] sep (at e j).kids (behind e j) (next_amid j h)) (λ q. passes [] j h)

    module _ (f g : ℕ → ℕ → Out) (below : (k : ℕ) → Amid e low k → Same (Amid e low) (f (at e k).kind k) (g (at e k).kind k)) where
      placed_alike : (c : Class) (j : ℕ) → Amid e low j → Same (Amid e low) (placed e f c j) (placed e g c j)
      unfolding placed
      placed_alike c j h = either (allowed c (at e j).kind) (λ q. below j h) (λ q. passes [] j h)

      means_alike : (r : Record) (s : Shape) (j : ℕ) → Amid e low j → Same (Amid e low) (means e f r s j) (means e g r s j)
      unfolding means
      means_alike r nothing j h = says [] j h
      means_alike r token j h = says _ j h
      means_alike r ident j h = says _ j h
      means_alike r (word w) j h = says _ j h
      means_alike r (said s) j h = says _ j h
      means_alike r (line w) j h = says _ j h
      means_alike r (when bit a) j h = either (flagged bit r) (λ q. means_alike r a j h) (λ q. says [] j h)
      means_alike r (is n a) j h = either (eqb r.flags n) (λ q. means_alike r a j h) (λ q. says [] j h)
      means_alike r (slot c) j h = placed_alike c j h
      means_alike r (each c) j h =
          let token-at : ℕ → Out = λ k. of_kind e TOKEN k (token_of e (at e k) ∷ []) in
          rows_same (λ n. Amid e low) token-at token-at (λ n k l. passes _ k l) [] [] r.kids j h
      means_alike r (commas c) j h = listed_alike (placed e f c) (placed e g c) (placed_alike c) comma j h
      means_alike r (row c) j h = listed_alike (placed e f c) (placed e g c) (placed_alike c) [] j h
      means_alike r (lines c w) j h =
          let end : ℕ → Out = say (valued w newline ∷ []) in
          listed_alike (λ k. then (placed e f c k) end) (λ k. then (placed e g c k) end) (λ k l. thens end end (placed_alike c k l) (says (valued w newline ∷ []))) [] j h
      means_alike r (tuples c) j h =
          let fs = listed e (placed e f c) comma in
          let gs = listed e (placed e g c) comma in
          let end : ℕ → Out = say (bare TK_RP ∷ []) in
          listed_alike (bracketed fs) (bracketed gs)
          (λ k l. thens end end (thens fs gs (says (bare TK_LP ∷ []) k l) (listed_alike (placed e f c) (placed e g c) (placed_alike c) comma)) (says (bare TK_RP ∷ [])))
          comma j h
      means_alike r (given a) j h = either (eqb (at e j).kind NONE) (λ q. passes [] j h) (λ q. means_alike r a j h)
      means_alike r (filled a) j h = either (eqb (at e j).kids 0) (λ q. passes [] j h) (λ q. means_alike r a j h)
      means_alike r (replacing a b) j h = either (eqb (at e j).kind REPLACE) (λ q. means_alike r a j h) (λ q. means_alike r b j h)
      means_alike r decimal j h = passes _ j h
      means_alike r brackets j h = passes _ j h
      means_alike r quoted j h = passes _ j h
      means_alike r rowid j h = passes _ j h
      means_alike r source j h = checks e (placed_alike run j h) next_amid
      means_alike r (both a b) j h = boths e.edition (means e f r b) (means e g r b) (means_alike r a j h) (means_alike r b)
      means_alike r (later a b) j h = laters (means e f r b) (means e g r b) (means_alike r a j h) (means_alike r b)
      means_alike r (a · b) j h = thens (means e f r b) (means e g r b) (means_alike r a j h) (means_alike r b)

  -- ---- a record that is there, and past the end
  abbrev made : (ℕ → ℕ → Out) → ℕ → Out
  made f j = means e f (at e j) (shape (at e j).kind) (behind e j)

  past_made : (f : ℕ → ℕ → Out) (j : ℕ) → count e.tree ≤ j → made f j ≡ say [] (behind e j)
  unfolding means shape
  past_made f j h = rw (past e.tree j h)

  made_alike : (f g : ℕ → ℕ → Out) (j : ℕ) → j ≤ count e.tree
      → ((k : ℕ) → Amid e (j + 1) k → Same (Amid e (j + 1)) (f (at e k).kind k) (g (at e k).kind k)) → Same (Amid e j) (made f j) (made g j)
  made_alike f g j h below = by (ltb j (count e.tree)) refl
    where
      by : (b : Bool) → ltb j (count e.tree) ≡ b → Same (Amid e j) (made f j) (made g j)
      by true q =
          let l = ltb-true j (count e.tree) q in
          let z = behind_there e j l in
          lower (means_alike (j + 1) f g below (at e j) (shape (at e j).kind) (behind e j) (omega arith, omega arith)) (omega arith)
      by false q =
          let l = ltb-false j (count e.tree) q in
          rw (past_made f j l, past_made g j l) (passes j [] j (omega arith, h))

  -- ---- no two solutions
  module _ (f g : ℕ → ℕ → Out) (sf : Solves e f) (sg : Solves e g) where
    alike : (n j : ℕ) → count e.tree ≤ n + j → j ≤ count e.tree → Same (Amid e j) (f (at e j).kind j) (g (at e j).kind j)
    alike zero j l h = rw (sf j ∙ past_made f j (omega arith), sg j ∙ past_made g j (omega arith)) (passes j [] j (omega arith, h))
    alike (suc n) j l h = rw (sf j, sg j) (made_alike f g j h (λ k m. lower (alike n k (omega arith) m.1) m.0))

    pub one_solution : (j : ℕ) → f (at e j).kind j ≡ g (at e j).kind j
    one_solution j = by (ltb j (count e.tree)) refl
      where
        by : (b : Bool) → ltb j (count e.tree) ≡ b → f (at e j).kind j ≡ g (at e j).kind j
        by true q = let l = ltb-true j (count e.tree) q in (alike (count e.tree) j (omega arith) (omega arith)).is
        by false q =
            let l = ltb-false j (count e.tree) q in
            sf j ∙ past_made f j l ∙ sym (sg j ∙ past_made g j l)

  -- ---- a depth of as many records as there are is a solution
  past_node : (n j : ℕ) → count e.tree ≤ j → node e n (at e j).kind j ≡ say [] (behind e j)
  unfolding node means shape
  past_node zero j h = rw (past e.tree j h)
  past_node (suc n) j h = rw (past e.tree j h)

  nodes_alike : (n m j : ℕ) → count e.tree ≤ n + j → count e.tree ≤ m + j → j ≤ count e.tree
      → Same (Amid e j) (node e n (at e j).kind j) (node e m (at e j).kind j)
  unfolding node
  nodes_alike zero m j l k h = rw (past_node 0 j (omega arith), past_node m j (omega arith)) (passes j [] j (omega arith, h))
  nodes_alike (suc n) zero j l k h = rw (past_node (suc n) j (omega arith), past_node 0 j (omega arith)) (passes j [] j (omega arith, h))
  nodes_alike (suc n) (suc m) j l k h = made_alike (node e n) (node e m) j h (λ i b. lower (nodes_alike n m i (omega arith) (omega arith) b.1) b.0)

  pub solved : Solves e (node e (count e.tree))
  unfolding node
  solved j = by (ltb j (count e.tree)) refl
    where
      n : ℕ
      n = count e.tree

      by : (b : Bool) → ltb j n ≡ b → node e n (at e j).kind j ≡ made (node e n) j
      by true q = let l = ltb-true j n q in (nodes_alike n (suc n) j (omega arith) (omega arith) (omega arith)).is
      by false q = let l = ltb-false j n q in past_node n j l ∙ sym (past_made (node e n) j l)
