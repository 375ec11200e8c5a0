-- How long the text of a tree can be: one induction over shapes and one over the depth.
-- Each record that is there pays for what its shape writes itself, and twice for its text part, and the index goes on behind it; so a row of
-- records writes at most what those pay that it takes up. Past the end of the tree nothing is written but what stands between and around the
-- elements of a LIST, for which the LIST has paid.
use Prim.Native.Nat.{ℕ, zero, suc, ◌+◌, ◌*◌, ◌^◌, ◌≤◌, ◌<◌, min}
use native.Mathlib.Omega.{arith}
use Rattle.std.proofs.Common.{le_refl, ◌∙◌, ap, eqb-true, ne_eqb, ltb-true, ltb-false}
use Rattle.std.proofs.Math.Nat.{mul-suc, mul-le-mul_right}
use Rattle.std.specs.Prelude.{◌≡◌, Bool, cond, ◌&&◌, ltb, leb, length, get_or}
use Rattle.std.proofs.Math.Path.{refl}
use mathlib.Core.List.{List, [], ◌∷◌, ◌++◌}
use Rattle.std.proofs.Math.Bool.{true, false}
use Rattle.std.proofs.Math.Dec.{eqb}
use Rattle.laws.specs.Text.{ascii}
use Rattle.spelling.specs.Token.{TK_LP, TK_RP}
use Rattle.stream.specs.Stream.{Token}
use Rattle.stream.specs.Length.{longest_token, weigh, weigh_append, weigh_none, weigh_one, given_size, text_length}
use Rattle.decimal.specs.Decimal as decimal
use Rattle.decimal.specs.Laws.{length_decimal}
use Rattle.record.specs.Record.{count, number_of}
use Rattle.record.specs.Laws.{nothing as absent, past}
use Rattle.record.proofs.Laws.{bounded}
use Rattle.record.specs.declared.Record.{Record}
use Rattle.grammar.specs.Kind.{NONE, LIST, TOKEN, TEXT, NUMBER, REPLACE}
use Rattle.grammar.specs.Shape.{Class, one, Shape, nothing, token, ident, word, said, line, when, is, slot, each, commas, row, lines, tuples, given, filled, replacing, decimal, brackets, quoted, rowid, source, both, later, ◌·◌}
use Rattle.grammar.specs.Grammar.{run, root, root_kinds, shape}
use Rattle.grammar.specs.Slots.{allowed}
use Rattle.tokens.specs.Corners.{bare, valued, id, newline, without, sourced, quote, pairs}
use Rattle.tokens.specs.Tokens.{Source, Out, at, behind, part, token_of, flagged, say, of, then, rows, listed, placed, of_kind, comma, bracketed, checked, between, means, leaf, node, deepest, whole, tokens_of, text_of}
use Rattle.tokens.specs.Ample.{sum_next, sum_up}
use Rattle.tokens.specs.Weights.{longest, around, base, cost, cost_together, shape_affordable, comma_weight, left_weight, right_weight, pairs_weight, cut_short, sourced_weight, without_weight, between_weight, number_fits}
use Rattle.tokens.proofs.Weights.{quote_weight}
use Rattle.tokens.specs.Bound.{pays, paid, Within, Bounded}

module _ (e : Source) where
  more : {n m j : ℕ} {o : Out} → Within e n j o → n ≤ m → Within e m j o
  more p h = record { low = p.low; high = p.high; weight = omega arith }

  says : (ts : List Token) (n j : ℕ) → j ≤ count e.tree → weigh ts ≤ n → Within e n j (say ts j)
  says ts n j h w = record { low = le_refl j; high = h; weight = omega arith }

  -- one row of records behind another, in whatever order their tokens are written
  joins : {n m k j : ℕ} {o q : Out} (ts : List Token) → Within e n j o → Within e m o.next q → weigh ts + (n + m) ≤ weigh o.tokens + weigh q.tokens + k
      → Within e k j (say ts q.next)
  joins ts p g w = record { low = omega (arith, p.low, g.low); high = g.high; weight = omega (arith, w, p.weight, g.weight) }

  thens : {n m j : ℕ} {o : Out} (f : ℕ → Out) → Within e n j o → ((k : ℕ) → k ≤ count e.tree → Within e m k (f k)) → Within e (n + m) j (then o f)
  thens {o = o} f p g =
      let q = f o.next in
      joins (o.tokens ++ q.tokens) p (g o.next p.high) (omega (arith, weigh_append o.tokens q.tokens))

  either : {n j : ℕ} {x y : Out} (b : Bool) → (b ≡ true → Within e n j x) → Within e n j y → Within e n j (cond b x y)
  either true p q = p refl
  either false p q = q

  -- ---- the record at j: there, or past the end
  behind_there : (j : ℕ) → j < count e.tree → behind e j ≡ j + 1
  unfolding behind
  behind_there j h = omega arith

  behind_past : (j : ℕ) → j ≤ count e.tree → count e.tree ≤ j → behind e j ≡ j
  unfolding behind
  behind_past j h l = omega arith

  paid_there : (j : ℕ) → j < count e.tree → paid e (behind e j) ≡ paid e j + pays e (at e j)
  paid_there j h = ap (paid e) (behind_there j h) ∙ sum_next (pays e) e.tree j

  -- a record of any kind but LIST
  pays_part : (j : ℕ) → eqb (at e j).kind LIST ≡ false → pays e (at e j) ≡ (base (shape (at e j).kind)).words + 2 * length (part e (at e j))
  unfolding pays
  pays_part j q = rw q

  ofs : (n j : ℕ) (ts : List Token) → j ≤ count e.tree → weigh ts ≤ n + pays e (at e j) → (count e.tree ≤ j → ts ≡ []) → Within e n j (of e j ts)
  ofs n j ts h w none = by (ltb j (count e.tree)) refl
    where
      by : (b : Bool) → ltb j (count e.tree) ≡ b → Within e n j (of e j ts)
      by true q =
          let l : j < count e.tree = ltb-true j (count e.tree) q in
          let i = behind_there j l in
          record { low = omega arith; high = omega arith; weight = omega (arith, paid_there j l) }
      by false q =
          let l : count e.tree ≤ j = ltb-false j (count e.tree) q in
          let i = behind_past j h l in
          let z : weigh ts ≡ 0 = ap weigh (none l) ∙ weigh_none in
          record { low = omega arith; high = omega arith; weight = omega (arith, ap (paid e) i) }

  nothing_of : (j : ℕ) → j ≤ count e.tree → Within e 0 j (of e j [])
  nothing_of j h = ofs 0 j [] h (omega (arith, weigh_none)) (λ l. refl)

  -- a record of a kind that is not NONE is there
  there : (j k : ℕ) → 0 < k → eqb (at e j).kind k ≡ true → j < count e.tree
  there j k h q = by (ltb j (count e.tree)) refl
    where
      by : (b : Bool) → ltb j (count e.tree) ≡ b → j < count e.tree
      by true t = ltb-true j (count e.tree) t
      by false t =
          let z = ap (λ (r : Record). r.kind) (past e.tree j (ltb-false j (count e.tree) t)) in
          let i = eqb-true (at e j).kind k q in
          absurd (omega arith)

  -- and pays for its text part, if it is of a kind that is not LIST
  kinds : (n j k : ℕ) (ts : List Token) → 0 < k → eqb k LIST ≡ false → j ≤ count e.tree → weigh ts ≤ n + ((base (shape k)).words + 2 * length (part e (at e j)))
      → Within e n j (of_kind e k j ts)
  kinds n j k ts p o h w =
      ofs n j (cond (eqb (at e j).kind k) ts []) h (by (eqb (at e j).kind k) refl) (λ l. rw (past e.tree j l, ne_eqb 0 k (λ z. omega arith)))
    where
      by : (b : Bool) → eqb (at e j).kind k ≡ b → weigh (cond b ts []) ≤ n + pays e (at e j)
      by true q =
          let z = eqb-true (at e j).kind k q in
          omega (arith, w, pays_part j (rw z o), ap (λ (m : ℕ). (base (shape m)).words) z)
      by false q = omega (arith, weigh_none)

  -- ---- rows, where each element is within u
  module _ (f : ℕ → Out) (u : ℕ) (within : (k : ℕ) → k ≤ count e.tree → Within e u k (f k)) where
    rows_within : (w : ℕ) (lead sep : List Token) (n j : ℕ) → weigh lead + u ≤ w → weigh sep + u ≤ w → j ≤ count e.tree → Within e (w * n) j (rows f lead sep n j)
    unfolding rows
    rows_within w lead sep zero j p q h = says [] (w * 0) j h (omega (arith, weigh_none))
    rows_within w lead sep (suc n) j p q h =
        more (thens (rows f sep sep n) (thens f (says lead (weigh lead) j h (le_refl (weigh lead))) within) (λ k l. rows_within w sep sep n k q q l))
        (omega (arith, mul-suc w n))

    listed_within : (sep : List Token) (j : ℕ) → weigh sep + u ≤ around → j ≤ count e.tree → Within e 0 j (listed e f sep j)
    unfolding listed pays
    listed_within sep j q h =
        either (eqb (at e j).kind LIST)
        (λ t.
        let l = there j LIST (omega arith) t in
        let i = behind_there j l in
        let g : pays e (at e j) ≡ around * (at e j).kids = rw t in
        let p = rows_within around [] sep (at e j).kids (behind e j) (omega (arith, weigh_none)) q (omega arith) in
        record { low = omega arith; high = p.high; weight = omega (arith, p.weight, paid_there j l, g) })
        (nothing_of j h)

-- ---- all shapes, where the records below keep within what they pay
module _ (e : Source) (inBytes : (k : ℕ) → get_or e.tree k 0 < 256) where
  token_weight : (r : Record) → weigh (token_of e r ∷ []) ≤ longest_token + length (part e r)
  unfolding token_of
  token_weight r = omega (arith, weigh_one (token_of e r), given_size (leb 0x8000 r.flags) (part e r))

  decimal_weight : (j : ℕ) → weigh (id (decimal.decimal (number_of (at e j))) ∷ []) ≤ longest_token + 20
  decimal_weight j =
      let k = bounded e.tree j inBytes in
      omega (arith, weigh_one (id (decimal.decimal (number_of (at e j)))), length_decimal (number_of (at e j)) (number_fits (at e j) k.start k.len))

  module _ (f : ℕ → ℕ → Out) (below : (j : ℕ) → j ≤ count e.tree → Within e 0 j (f (at e j).kind j)) where
    placed_within : (c : Class) (j : ℕ) → j ≤ count e.tree → Within e 0 j (placed e f c j)
    unfolding placed
    placed_within c j h = either e (allowed c (at e j).kind) (λ t. below j h) (nothing_of e j h)

    -- the records of a LIST, each in the place c
    places_within : (c : Class) (sep : List Token) (j : ℕ) → weigh sep ≤ around → j ≤ count e.tree → Within e 0 j (listed e (placed e f c) sep j)
    places_within c sep j w h = listed_within e (placed e f c) 0 (placed_within c) sep j (omega arith) h

    -- each with a token and a newline behind it
    lines_within : (c : Class) (w j : ℕ) → j ≤ count e.tree → Within e 0 j (listed e (λ k. then (placed e f c k) (say (valued w newline ∷ []))) [] j)
    lines_within c w j h =
        listed_within e (λ k. then (placed e f c k) (say (valued w newline ∷ []))) around
        (λ k l. thens e (say (valued w newline ∷ [])) (placed_within c k l) (λ i m. says e (valued w newline ∷ []) around i m (weigh_one (valued w newline))))
        [] j (omega (arith, weigh_none)) h

    -- each a LIST in brackets
    tuples_within : (c : Class) (j : ℕ) → j ≤ count e.tree → Within e 0 j (listed e (bracketed (listed e (placed e f c) comma)) comma j)
    tuples_within c j h =
        listed_within e (bracketed (listed e (placed e f c) comma)) 3
        (λ k l.
        thens e (say (bare TK_RP ∷ []))
        (thens e (listed e (placed e f c) comma) (says e (bare TK_LP ∷ []) 2 k l (omega (arith, left_weight))) (λ i m. places_within c comma i (omega (arith, comma_weight)) m))
        (λ i m. says e (bare TK_RP ∷ []) 1 i m (omega (arith, right_weight))))
        comma j (omega (arith, comma_weight)) h

    -- the TOKENs of a RUN: past the end they write nothing
    tokens_within : (n j : ℕ) → j ≤ count e.tree → Within e 0 j (rows (λ k. of_kind e TOKEN k (token_of e (at e k) ∷ [])) [] [] n j)
    unfolding shape base
    tokens_within n j h =
        more e
        (rows_within e (λ k. of_kind e TOKEN k (token_of e (at e k) ∷ [])) 0
        (λ k l. kinds e 0 k TOKEN (token_of e (at e k) ∷ []) (omega arith) refl l (omega (arith, token_weight (at e k))))
        0 [] [] n j (omega (arith, weigh_none)) (omega (arith, weigh_none)) h)
        (omega arith)

    -- a CHECK's expression, which its run pays for, or its source, which pays for its text
    source_within : (j : ℕ) → j ≤ count e.tree → Within e (longest_token + around) j (checked e (placed e f run j).tokens (placed e f run j).next)
    unfolding checked
    source_within j h = by (eqb (at e k).kind TEXT) (ltb 0 (at e k).len) refl
      where
        p : Within e 0 j (placed e f run j)
        p = placed_within run j h

        k : ℕ
        k = (placed e f run j).next

        ts : List Token
        ts = (placed e f run j).tokens

        kept : Within e (longest_token + around) j (of e k ts)
        kept = joins e ts p (nothing_of e k p.high) (omega (arith, weigh_none))

        by : (t l : Bool) → eqb (at e k).kind TEXT ≡ t → Within e (longest_token + around) j (of e k (cond (t && l) (sourced (part e (at e k))) ts))
        by true true q =
            let x = sourced (part e (at e k)) in
            joins e x p
            (rw q at (kinds e (longest_token + around) k TEXT x (omega arith) refl p.high (omega (arith, sourced_weight (part e (at e k))))))
            (omega arith)
        by true false q = kept
        by false l q = kept

    -- a shape of record r
    means_within : (r : Record) (s : Shape) (j : ℕ) → j ≤ count e.tree → Within e (cost (base s) (length (part e r))) j (means e f r s j)
    unfolding means base
    means_within r nothing j h = says e [] _ j h (omega (arith, weigh_none))
    means_within r token j h = says e (token_of e r ∷ []) _ j h (omega (arith, token_weight r))
    means_within r ident j h = says e (id (part e r) ∷ []) _ j h (omega (arith, weigh_one (id (part e r))))
    means_within r (word w) j h = says e (bare w ∷ []) _ j h (omega (arith, weigh_one (bare w)))
    means_within r (said x) j h = says e (id (ascii x) ∷ []) _ j h (omega (arith, weigh_one (id (ascii x))))
    means_within r (line w) j h = says e (valued w newline ∷ []) _ j h (omega (arith, weigh_one (valued w newline)))
    means_within r (when bit a) j h = either e (flagged bit r) (λ t. means_within r a j h) (says e [] _ j h (omega (arith, weigh_none)))
    means_within r (is n a) j h = either e (eqb r.flags n) (λ t. means_within r a j h) (says e [] _ j h (omega (arith, weigh_none)))
    means_within r (slot c) j h = more e (placed_within c j h) (omega arith)
    means_within r (each c) j h = more e (tokens_within r.kids j h) (omega arith)
    means_within r (commas c) j h = more e (places_within c comma j (omega (arith, comma_weight)) h) (omega arith)
    means_within r (row c) j h = more e (places_within c [] j (omega (arith, weigh_none)) h) (omega arith)
    means_within r (lines c w) j h = more e (lines_within c w j h) (omega arith)
    means_within r (tuples c) j h = more e (tuples_within c j h) (omega arith)
    means_within r (given a) j h = either e (eqb (at e j).kind NONE) (λ t. more e (nothing_of e j h) (omega arith)) (means_within r a j h)
    means_within r (filled a) j h = either e (eqb (at e j).kids 0) (λ t. more e (nothing_of e j h) (omega arith)) (means_within r a j h)
    means_within r (replacing x y) j h =
        either e (eqb (at e j).kind REPLACE) (λ t. more e (means_within r x j h) (omega (arith, cost_together (base x) (base y) (length (part e r)))))
        (more e (means_within r y j h) (omega (arith, cost_together (base x) (base y) (length (part e r)))))
    means_within r decimal j h = more e (kinds e (longest_token + 20) j NUMBER (id (decimal.decimal (number_of (at e j))) ∷ []) (omega arith) refl h (omega (arith, decimal_weight j))) (omega arith)
    means_within r brackets j h =
        more e (kinds e (2 * 255) j NUMBER (pairs (min (at e j).start 255)) (omega arith) refl h (omega (arith, pairs_weight (min (at e j).start 255)))) (omega arith)
    means_within r quoted j h =
        let x = part e (at e j) in
        more e (kinds e (longest_token + 2) j TEXT (quote e.edition x ∷ []) (omega arith) refl h (omega (arith, quote_weight e.edition x))) (omega arith)
    means_within r rowid j h =
        let x = part e (at e j) in
        more e (kinds e (2 * longest_token) j TEXT (without x) (omega arith) refl h (omega (arith, without_weight x))) (omega arith)
    means_within r source j h = more e (source_within j h) (omega arith)
    means_within r (both x y) j h =
        let p = means_within r x j h in
        let o = means e f r x j in
        let q = means e f r y o.next in
        let m = between e.edition o.tokens q.tokens in
        joins e (o.tokens ++ (m ++ q.tokens)) p (means_within r y o.next p.high)
        (omega (arith, weigh_append o.tokens (m ++ q.tokens), weigh_append m q.tokens, between_weight e.edition o.tokens q.tokens, cost_together (base x) (base y) (length (part e r))))
    means_within r (later x y) j h =
        let p = means_within r x j h in
        let o = means e f r x j in
        let q = means e f r y o.next in
        joins e (q.tokens ++ o.tokens) p (means_within r y o.next p.high)
        (omega (arith, weigh_append q.tokens o.tokens, cost_together (base x) (base y) (length (part e r))))
    means_within r (x · y) j h =
        more e (thens e (means e f r y) (means_within r x j h) (λ k l. means_within r y k l)) (omega (arith, cost_together (base x) (base y) (length (part e r))))

    -- the record at j pays for its shape; a LIST has none
    shape_paid : (j : ℕ) → cost (base (shape (at e j).kind)) (length (part e (at e j))) ≤ pays e (at e j)
    unfolding base shape
    shape_paid j = by (eqb (at e j).kind LIST) refl
      where
        by : (b : Bool) → eqb (at e j).kind LIST ≡ b → cost (base (shape (at e j).kind)) (length (part e (at e j))) ≤ pays e (at e j)
        by true q = rw (eqb-true (at e j).kind LIST q) (omega arith)
        by false q = omega (arith, pays_part e j q, mul-le-mul_right (length (part e (at e j))) (shape_affordable (at e j).kind).twice)

    -- and past the end there is a NONE, which writes nothing
    past_end : (j : ℕ) → j ≤ count e.tree → behind e j ≡ j → Within e 0 j (means e f absent (shape NONE) (behind e j))
    unfolding means shape
    past_end j h i = rw i (says e [] 0 j h (omega (arith, weigh_none)))

    record_within : (j : ℕ) → j ≤ count e.tree → Within e 0 j (means e f (at e j) (shape (at e j).kind) (behind e j))
    record_within j h = by (ltb j (count e.tree)) refl
      where
        by : (t : Bool) → ltb j (count e.tree) ≡ t → Within e 0 j (means e f (at e j) (shape (at e j).kind) (behind e j))
        by true q =
            let l = ltb-true j (count e.tree) q in
            let i = behind_there e j l in
            let p = means_within (at e j) (shape (at e j).kind) (behind e j) (omega arith) in
            record { low = omega (arith, p.low); high = p.high; weight = omega (arith, p.weight, paid_there e j l, shape_paid j) }
        by false q =
            let l = ltb-false j (count e.tree) q in
            rw (past e.tree j l) (past_end j h (behind_past e j h l))

  -- ---- all depths
  node_within : (d j : ℕ) → j ≤ count e.tree → Within e 0 j (node e d (at e j).kind j)
  unfolding node
  node_within zero j h = either e (leaf (at e j).kind) (λ t. record_within (λ l i. of e i []) (nothing_of e) j h) (nothing_of e j h)
  node_within (suc d) j h = record_within (node e d) (node_within d) j h

  whole_within : (d : ℕ) → Within e 0 0 (whole e d)
  unfolding whole
  whole_within d =
      either e (eqb (at e 0).kind LIST) (λ t. places_within (node e d) (node_within d) (one root_kinds) comma 0 (omega (arith, comma_weight)) (omega arith))
      (placed_within (node e d) (node_within d) root 0 (omega arith))

  -- a text has at most the bytes that the records of its tree pay
  pub text_paid : length (text_of e) ≤ paid e (count e.tree)
  unfolding text_of tokens_of
  text_paid =
      let p = whole_within deepest in
      omega (arith, text_length true (whole e deepest).tokens, p.weight, sum_up (pays e) e.tree _ _ p.high)

module _ (e : Source) (b : Bounded e) where
  -- the most is what a LIST pays
  pays_most : (j : ℕ) → pays e (at e j) ≤ around * longest
  unfolding pays
  pays_most j = by (eqb r.kind LIST)
    where
      r : Record
      r = at e j

      by : (t : Bool) → cond t (around * r.kids) ((base (shape r.kind)).words + 2 * length (part e r)) ≤ around * longest
      by true = omega (arith, (bounded e.tree j b.bytes).kids)
      by false = omega (arith, (shape_affordable r.kind).few, (cut_short r.len r.start e.text).1, b.text)

  paid_most : (n : ℕ) → paid e n ≤ around * longest * n
  paid_most zero = omega arith
  paid_most (suc n) = omega (arith, paid_most n, pays_most n)

  -- so the length of a text fits the place of an answer
  pub text_fits : length (text_of e) < 2 ^ 32
  text_fits = omega (arith, text_paid e b.bytes, paid_most (count e.tree), b.tree)
