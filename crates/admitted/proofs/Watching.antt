-- The check's scan has a list of places still to be filled, and a shape goes along the records in the same order. So, wherever the records from j
-- on fill the places of a shape's slots and others behind them, what the shape writes hangs on records below it that stand in their places alone,
-- and the records from the index that it leaves fill the others. No place is deeper than 64, so with 64 levels none below is asked for.
use Prim.Native.Nat.{ℕ, zero, suc, ◌+◌, ◌<◌}
use Rattle.std.proofs.Common.{arith}
use Rattle.std.specs.Prelude.{◌≡◌, Bool, false, eqb, length, replicate}
use Rattle.std.proofs.Math.Path.{refl}
use mathlib.Core.List.{List, [], ◌∷◌, ◌++◌, map, map-append, append_assoc}
use Rattle.std.proofs.Math.Bool.{true}
use Rattle.std.proofs.lemmas.Bool.{false≢true}
use borrow.Author.Tests.{eqb-true}
use Rattle.laws.specs.Tests.{and_left, and_right, and_parts}
use Rattle.stream.specs.Stream.{Token}
use Rattle.spelling.specs.Token.{TK_LP, TK_RP}
use Rattle.record.specs.declared.Record.{Record}
use Rattle.grammar.specs.Kind.{NONE, LIST, TOKEN, RUN, REPLACE}
use Rattle.grammar.specs.Shape.{Class, one, list, check_source, ruled, Shape, nothing, token, ident, word, said, line, when, is, slot, each, commas, row, lines, tuples, given, filled, replacing, decimal, brackets, quoted, rowid, source, both, later, ◌·◌}
use Rattle.grammar.specs.Grammar.{run, root, root_kinds, shape}
use Rattle.grammar.specs.Slots.{slots_of, allowed, elements}
use Rattle.grammar.specs.Laws.{same_all, same_all_lem}
use Rattle.tree.specs.Check.{Place, place, holds, fits}
use Rattle.tree.specs.Check.{deepest as nesting}
use Rattle.tree.proofs.Steps.{childless}
use Rattle.tokens.specs.Corners.{bare, valued, newline}
use Rattle.tokens.specs.Tokens.{Source, Out, at, behind, token_of, flagged, say, of, then, listed, placed, of_kind, comma, bracketed, checked, means, deepest}
use Rattle.admitted.specs.Watched.{in_place, left_out, token_place}
use Rattle.admitted.specs.Watched.{child, items, behind_run, watched, watched_whole}
use Rattle.admitted.specs.Same.{Same}
use Rattle.admitted.proofs.Same.{says, ofs, either, thens, boths, laters, rows_same}
use Rattle.admitted.specs.Tame.{slots, tame, plain, barren_place}
use Rattle.admitted.proofs.Tame.{tamed, no_list, none_held}
use Rattle.admitted.specs.Fills.{Fills, Filled}
use Rattle.admitted.proofs.Fills.{fill, stands, none_holds, run_holds, slots_hold, behind_there, past_childless, past_leaf}
use Rattle.admitted.specs.Reads.{Rises}

module _ (e : Source) where
  leaf : {d : ℕ} {c : Class} {ps : List Place} (ts : List Token) (j : ℕ) → barren_place c ≡ true → Fills e (place d c ∷ ps) j → Same (Fills e ps) (of e j ts) (of e j ts)
  leaf ts j b h = ofs e ts j (past_leaf e b j h)

  -- no place
  hollow : (j d : ℕ) (cs : List Class) {ps : List Place} → eqb (length cs) 0 ≡ true → Fills e (map (place d) cs ++ ps) j → Same (Fills e ps) (say [] j) (say [] j)
  hollow j d cs n h = says [] j (rw (none_held cs (eqb-true (length cs) 0 n)) at h)

  -- ---- whatever u and v say of records that may not stand in their places
  module _ (u v : ℕ → Out) where
    in_place_lem : {P : ℕ → Type 0} {d : ℕ} {c : Class} {ps : List Place} (f g : ℕ → Out) (j : ℕ) → Fills e (place d c ∷ ps) j → Same P (f j) (g j)
        → Same P (in_place e u c f j) (in_place e v c g j)
    unfolding in_place
    in_place_lem f g j h s = rw (stands h) s

    -- one child is left out
    left_out_lem : (j d : ℕ) (cs : List Class) {ps : List Place} → eqb (length cs) 1 ≡ true
        → ((c : Class) → fits c (at e j) ≡ true → holds c (at e j) ≡ []) → Fills e (map (place d) cs ++ ps) j → Same (Fills e ps) (left_out e u cs j) (left_out e v cs j)
    unfolding left_out
    left_out_lem j d [] n z h = absurd (false≢true n)
    left_out_lem j d (c ∷ []) n z h = let f = fill h in in_place_lem (λ k. of e k []) (λ k. of e k []) j h (ofs e [] j (past_childless e f (z c f.fit)))
    left_out_lem j d (c ∷ c' ∷ cs) n z h = let m = eqb-true (length (c ∷ c' ∷ cs)) 1 n in absurd (omega arith)

    -- a CHECK's source
    source_same : {d : ℕ} {ps : List Place} {o p : Out} (f g : ℕ → ℕ → Out) → Same (Fills e (place d (ruled check_source) ∷ ps)) o p → Same (Fills e ps) (behind_run e u f o) (behind_run e v g p)
    unfolding behind_run in_place checked barren_place shape slots_of
    source_same {o = o} f g s = rw (← s.is, stands s.on) (record { is = refl; on = past_leaf e refl o.next s.on })

    -- ---- a LIST, each of whose elements writes the same
    module _ (f g : ℕ → Out) (d : ℕ) (c : Class) (each-one : (ps : List Place) (j : ℕ) → Fills e (place (d + 1) c ∷ ps) j → Same (Fills e ps) (f j) (g j)) where
      listed_same : (sep : List Token) (o : Class) (ps : List Place) (j : ℕ) → elements o ≡ c → eqb (at e j).kind LIST ≡ true → Fills e (place d o ∷ ps) j
          → Same (Fills e ps) (listed e f sep j) (listed e g sep j)
      unfolding listed holds
      listed_same sep o ps j el l h =
          let s = fill h in
          rw (l, behind_there e j s.there)
          (rows_same (λ n. Fills e (map (place (d + 1)) (replicate n c) ++ ps)) f g (λ n. each-one (map (place (d + 1)) (replicate n c) ++ ps)) [] sep (at e j).kids (j + 1) (rw (l, el) at s.on))

      items_same : (φ ψ : ℕ → ℕ → Out) (sep : List Token) (ps : List Place) (j : ℕ) → Fills e (place d (list c) ∷ ps) j → Same (Fills e ps) (items e u φ c f sep j) (items e v ψ c g sep j)
      unfolding items elements allowed
      items_same φ ψ sep ps j h = in_place_lem (listed e f sep) (listed e g sep) j h (listed_same sep (list c) ps j refl (stands h) h)

    -- ---- all shapes of a record at depth d, where f and g agree on the records below
    module _ (f g : ℕ → ℕ → Out) (d : ℕ)
        (below : (m : ℕ) → d < m → (c : Class) (ps : List Place) (j : ℕ) → eqb (at e j).kind LIST ≡ false → Fills e (place m c ∷ ps) j → Same (Fills e ps) (f (at e j).kind j) (g (at e j).kind j)) where
      child_same : (m : ℕ) → d < m → (c : Class) → plain c ≡ true → (ps : List Place) (j : ℕ) → Fills e (place m c ∷ ps) j → Same (Fills e ps) (child e u f c j) (child e v g c j)
      unfolding child placed
      child_same m l c p ps j h = in_place_lem (placed e f c) (placed e g c) j h (rw (stands h) (below m l c ps j (no_list c (at e j).kind p (stands h)) h))

      -- the records of a LIST, each in the place c
      children_same : (m : ℕ) → d < m → (c : Class) → plain c ≡ true → (sep : List Token) (ps : List Place) (j : ℕ) → Fills e (place m (list c) ∷ ps) j
          → Same (Fills e ps) (items e u f c (child e u f c) sep j) (items e v g c (child e v g c) sep j)
      children_same m l c p = items_same (child e u f c) (child e v g c) m c (child_same (m + 1) (omega arith) c p) f g

      watched_same : (r : Record) (s : Shape) → tame s ≡ true → (ps : List Place) (j : ℕ) → Fills e (map (place (d + 1)) (slots_of s) ++ ps) j
          → Same (Fills e ps) (watched e u f r s j) (watched e v g r s j)
      unfolding watched means slots_of tame plain barren_place shape
      watched_same r nothing n ps j h = says [] j h
      watched_same r token n ps j h = says _ j h
      watched_same r ident n ps j h = says _ j h
      watched_same r (word w) n ps j h = says _ j h
      watched_same r (said s) n ps j h = says _ j h
      watched_same r (line w) n ps j h = says _ j h
      watched_same r (when bit a) n ps j h =
          let z : slots 0 a ≡ true = and_left _ (tame a) n in
          either (flagged bit r) (λ q. watched_same r a (and_right (slots 0 a) _ n) ps j h) (λ q. hollow j (d + 1) (slots_of a) z h)
      watched_same r (is v a) n ps j h =
          let z : slots 0 a ≡ true = and_left _ (tame a) n in
          either (eqb r.flags v) (λ q. watched_same r a (and_right (slots 0 a) _ n) ps j h) (λ q. hollow j (d + 1) (slots_of a) z h)
      watched_same r (slot c) n ps j h = child_same (d + 1) (omega arith) c n ps j h
      watched_same r (each c) n ps j h = absurd (false≢true n)
      watched_same r (commas c) n ps j h = children_same (d + 1) (omega arith) c n comma ps j h
      watched_same r (row c) n ps j h = children_same (d + 1) (omega arith) c n [] ps j h
      watched_same r (lines c w) n ps j h =
          let end : ℕ → Out = say (valued w newline ∷ []) in
          items_same (λ k. then (child e u f c k) end) (λ k. then (child e v g c k) end) (d + 1) c
          (λ qs k l. thens end end (child_same (d + 1 + 1) (omega arith) c n qs k l) (says (valued w newline ∷ []))) f g [] ps j h
      watched_same r (tuples c) n ps j h =
          let fs = items e u f c (child e u f c) comma in
          let gs = items e v g c (child e v g c) comma in
          let end : ℕ → Out = say (bare TK_RP ∷ []) in
          items_same (bracketed fs) (bracketed gs) (d + 1) (list c)
          (λ qs k l. thens end end (thens fs gs (says (bare TK_LP ∷ []) k l) (children_same (d + 1 + 1) (omega arith) c n comma qs)) (says (bare TK_RP ∷ [])))
          f g comma ps j h
      watched_same r (given a) n ps j h =
          let z : slots 1 a ≡ true = and_left _ (tame a) n in
          either (eqb (at e j).kind NONE) (λ q. left_out_lem j (d + 1) (slots_of a) z (λ c k. none_holds c (at e j) q) h)
          (λ q. watched_same r a (and_right (slots 1 a) _ n) ps j h)
      watched_same r (filled a) n ps j h =
          let z : slots 1 a ≡ true = and_left _ (tame a) n in
          either (eqb (at e j).kids 0)
          (λ q. left_out_lem j (d + 1) (slots_of a) z (λ c k. childless c (at e j) k (eqb-true (at e j).kids 0 q)) h)
          (λ q. watched_same r a (and_right (slots 1 a) _ n) ps j h)
      watched_same r (replacing a b) n ps j h =
          let same = same_all_lem (slots_of a) (slots_of b) (and_left (same_all (slots_of a) (slots_of b)) _ n) in
          let two = and_parts (tame a) (tame b) (and_right (same_all (slots_of a) (slots_of b)) _ n) in
          either (eqb (at e j).kind REPLACE) (λ q. watched_same r a two.0 ps j (rw same h)) (λ q. watched_same r b two.1 ps j h)
      watched_same r decimal n ps j h = in_place_lem (means e f r decimal) (means e g r decimal) j h (leaf _ j refl h)
      watched_same r brackets n ps j h = in_place_lem (means e f r brackets) (means e g r brackets) j h (leaf _ j refl h)
      watched_same r quoted n ps j h = in_place_lem (means e f r quoted) (means e g r quoted) j h (leaf _ j refl h)
      watched_same r rowid n ps j h = in_place_lem (means e f r rowid) (means e g r rowid) j h (leaf _ j refl h)
      watched_same r source n ps j h = source_same f g (child_same (d + 1) (omega arith) run refl (place (d + 1) (ruled check_source) ∷ ps) j h)
      watched_same r (both a b) n ps j h =
          let two = and_parts (tame a) (tame b) n in
          boths e.edition (watched e u f r b) (watched e v g r b) (watched_same r a two.0 (map (place (d + 1)) (slots_of b) ++ ps) j (rw (map-append, append_assoc) at h))
          (watched_same r b two.1 ps)
      watched_same r (later a b) n ps j h =
          let two = and_parts (tame a) (tame b) n in
          laters (watched e u f r b) (watched e v g r b) (watched_same r a two.0 (map (place (d + 1)) (slots_of b) ++ ps) j (rw (map-append, append_assoc) at h))
          (watched_same r b two.1 ps)
      watched_same r (a · b) n ps j h =
          let two = and_parts (tame a) (tame b) n in
          thens (watched e u f r b) (watched e v g r b) (watched_same r a two.0 (map (place (d + 1)) (slots_of b) ++ ps) j (rw (map-append, append_assoc) at h))
          (watched_same r b two.1 ps)

      -- the entry of a RUN
      run_same : (r : Record) → eqb r.kind RUN ≡ true → {ps : List Place} (j : ℕ) → Fills e (map (place (d + 1)) (replicate r.kids token_place) ++ ps) j
          → Same (Fills e ps) (watched e u f r (shape r.kind) j) (watched e v g r (shape r.kind) j)
      unfolding watched means shape slots_of barren_place
      run_same r z {ps} j h =
          let token-at : ℕ → Out = λ k. of_kind e TOKEN k (token_of e (at e k) ∷ []) in
          rw (eqb-true r.kind RUN z)
          (rows_same (λ n. Fills e (map (place (d + 1)) (replicate n token_place) ++ ps)) (in_place e u token_place token-at) (in_place e v token_place token-at)
          (λ n k l. in_place_lem token-at token-at k l (leaf _ k refl l)) [] [] r.kids j h)

      record_same : (c : Class) (ps : List Place) (j : ℕ) → eqb (at e j).kind LIST ≡ false → Fills e (place d c ∷ ps) j
          → Same (Fills e ps) (watched e u f (at e j) (shape (at e j).kind) (behind e j)) (watched e v g (at e j) (shape (at e j).kind) (behind e j))
      record_same c ps j q h = rw (behind_there e j s.there) (by (eqb r.kind RUN) refl)
        where
          s : Filled e d c ps j
          s = fill h

          r : Record
          r = at e j

          by : (b : Bool) → eqb r.kind RUN ≡ b → Same (Fills e ps) (watched e u f r (shape r.kind) (j + 1)) (watched e v g r (shape r.kind) (j + 1))
          by true z = run_same r z (j + 1) (rw (run_holds c r q z) at s.on)
          by false z = watched_same r (shape r.kind) (tamed r.kind z) ps (j + 1) (rw (slots_hold c r q z) at s.on)

module _ (e : Source) (u v : ℕ → Out) (φ ψ : ℕ → ℕ → ℕ → Out) (rφ : Rises e u φ) (rψ : Rises e v ψ) where
  levels_same : (n d : ℕ) → nesting < n + d → (c : Class) (ps : List Place) (j : ℕ) → eqb (at e j).kind LIST ≡ false → Fills e (place d c ∷ ps) j
      → Same (Fills e ps) (φ n (at e j).kind j) (ψ n (at e j).kind j)
  levels_same zero d l c ps j q h = absurd (omega (arith, (fill h).near))
  levels_same (suc n) d l c ps j q h = rw (rφ n j, rψ n j) (record_same e u v (φ n) (ψ n) d (λ m b. levels_same n m (omega arith)) c ps j q h)

  pub whole_same : Fills e (place 1 root ∷ []) 0 → Same (Fills e []) (watched_whole e u (φ deepest)) (watched_whole e v (ψ deepest))
  unfolding watched_whole child placed elements plain
  whole_same h =
      let f = φ deepest in
      let g = ψ deepest in
      either (eqb (at e 0).kind LIST)
      (λ q.
      listed_same e u v (child e u f (one root_kinds)) (child e v g (one root_kinds)) 1 (one root_kinds)
      (child_same e u v f g 1 (λ m b. levels_same deepest m (omega arith)) 2 (omega arith) (one root_kinds) refl) comma root [] 0 refl q h)
      (λ q. in_place_lem e u v (placed e f root) (placed e g root) 0 h (rw (stands h) (levels_same deepest 1 (omega arith) root [] 0 q h)))
