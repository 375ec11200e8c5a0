-- Laws of the corners: what each way through their functions writes.
use Prim.Native.Nat.{ℕ, zero, suc, ◌+◌, ◌-◌, ◌≤◌, ◌<◌, min}
use native.Mathlib.Omega.{arith}
use Rattle.std.proofs.Common.{not-suc-le-zero, sub-one, ◌∙◌, sym, length-append, length-drop, drop-cons}
use Rattle.std.specs.Prelude.{◌≡◌, List, [], ◌∷◌, ◌++◌, Bool, cond, not, ◌&&◌, ◌||◌, length, get_or, take, drop, replicate, ℤ, Some, None, slice_get}
use Rattle.std.proofs.Math.Path.{refl}
use Rattle.std.proofs.Math.Bool.{true, false, or-true}
use Rattle.std.proofs.lemmas.Bool.{false≢true}
use Rattle.std.proofs.Math.Dec.{eqb, ltb}
use Rattle.std.proofs.Math.Seq.{take-append_seam}
use borrow.Author.Tests.{eq-eqb, ne_eqb, eqb-true, lt-ltb}
use Rattle.decimal.specs.Decimal as decimal
use Rattle.decimal.specs.Spells.{Spells}
use Rattle.decimal.specs.declared.Decimal.{Decimal}
use Rattle.white.specs.Parts.{Span, span, parts, split_of}
use Rattle.white.specs.declared.Part.{Part}
use Rattle.std.proofs.lemmas.Option.{get_or_from_slice_get}
use Rattle.white.specs.declared.Parts.{Parts}
use Rattle.mode.specs.declared.Edition.{Edition}
use Rattle.mode.specs.declared.Edition.TheVariants.{Crate, Sqlite}
use Rattle.mode.specs.Options.{is_sqlite}
use Rattle.record.specs.Record.{record_at, number_of}
use Rattle.record.specs.declared.Record.{Record}
use Rattle.record.specs.Laws.{nothing as blank}
use Rattle.grammar.specs.Kind.{NONE, NUMBER, TEXT}
use Rattle.grammar.specs.Shape.{Shape, slot, decimal, brackets, quoted, rowid, source, both}
use Rattle.grammar.specs.Grammar.{run, text, maybe}
use Rattle.grammar.specs.Slots.{allowed}
use Rattle.spelling.specs.Token.{TK_STRING, TK_WITHOUT, TK_LBRACKET, TK_RBRACKET}
use Rattle.stream.specs.Stream.{Token}
use Rattle.stream.specs.Sink.{between, doubled}
use Rattle.tokens.specs.Corners.{bare, valued, id, newline, second_part, without, dashes, sourced, inner, quote, pairs}
use Rattle.tokens.specs.Tokens as tokens
use Rattle.tokens.specs.Tokens.{Out, comma, at, behind, anything, say, of, placed, checked, means}
use Rattle.pen.specs.declared.Pen.{Pen}
use Rattle.pen.specs.Pen as pen
use Rattle.pen.specs.Pen.{Spot, Past, emit, put, Puts, Says, Writes}
use Rattle.pen.specs.Laws.{in_one, puts_on, puts_next}
use Rattle.pen.specs.Rows.{opt, nothing}
use Rattle.pen.specs.Unique.{writes_unique}
use Rattle.pen.specs.Places.{index, entered, node_text, node_none, optional}
use Rattle.parts.specs.Laws.{of_other, of_this}

-- of a tree, whatever its text is
abbrev pub Textless : List ℕ → List ℕ → Shape → Spot → Spot → Type 0
Textless t w s a b = (x : List ℕ) (d : ℕ) (r : Record) → Writes (pen.source t x) w d r s a b

pub textless_unique : (t w : List ℕ) (s : Shape) (a b c : Spot) → Textless t w s a b → Textless t w s a c → b ≡ c
textless_unique t w s a b c p q = writes_unique (p [] 0 blank) (q [] 0 blank)

-- ---- tokens one after the other
pub says_then : {w : List ℕ} {ts us : List Token} {a b c : Spot} → Says w ts a b → Says w us b c → Says w (ts ++ us) a c
says_then {us = us} p q = record { puts = puts_on (say us) p.puts q.puts }

-- ---- a number's bytes
pub spelled_part : (z : ℤ) (n : Decimal) → Spells z n → take n.len n.bytes ≡ decimal.decimal z
spelled_part z n s = rw (s.len, s.bytes) (take-append_seam (decimal.decimal z) (replicate (20 - length (decimal.decimal z)) 0))

pub spelled_fits : (z : ℤ) (n : Decimal) → Spells z n → n.len ≤ length n.bytes
spelled_fits z n s = rw (s.len, s.bytes, length-append) (omega arith)

-- ---- pairs of brackets: what is left to be written from here is what was to be written at the start
pub pairs_first : {w : List ℕ} {a b c : Spot} (n : ℕ) → 0 < n → Says w (bare TK_LBRACKET ∷ []) a b → Says w (bare TK_RBRACKET ∷ []) b c
    → put w (say (pairs (n - 1)) c.0.next) c ≡ put w (say (pairs n) a.0.next) a
unfolding pairs
pairs_first zero h p q = absurd (not-suc-le-zero h)
pairs_first (suc n) h p q = rw sub-one (puts_on (say (pairs n)) (says_then p q).puts (record { is = refl })).is

pub pairs_next : {w : List ℕ} {a b c : Spot} (i n : ℕ) → i < n → Says w (bare TK_LBRACKET ∷ []) a b → Says w (bare TK_RBRACKET ∷ []) b c
    → put w (say (pairs (n - (i + 1))) c.0.next) c ≡ put w (say (pairs (n - i)) a.0.next) a
pairs_next i n l p q = let e : n - (i + 1) ≡ n - i - 1 = omega arith in rw e (pairs_first (n - i) (omega arith) p q)

pub pairs_done : {w : List ℕ} {a s : Spot} (ts : List Token) (n : ℕ) → n ≤ 0 → put w (say (pairs n) a.0.next) a ≡ put w (say ts s.0.next) s → Says w ts s a
unfolding pairs put emit
pairs_done ts n h e = let z : n ≡ 0 = omega arith in record { puts = record { is = rw z at e } }

-- ---- dashes: none stand before the place i
pub dashes_start : (x : List ℕ) → dashes (drop 0 x) ≡ dashes x
dashes_start x = refl

module _ (x : List ℕ) (i : ℕ) (some : 1 ≤ i) (there : i < length x) where
  second_on : drop i x ≡ get_or x i 0 ∷ drop (suc i) x
  second_on = drop-cons x i 0 there

  both_on : drop (i - 1) x ≡ get_or x (i - 1) 0 ∷ get_or x i 0 ∷ drop (suc i) x
  both_on =
      let e : suc (i - 1) ≡ i = omega arith in
      let f : drop (suc (i - 1)) x ≡ get_or x i 0 ∷ drop (suc i) x = rw e second_on in
      drop-cons x (i - 1) 0 (omega arith) ∙ rw f

  pub dashes_found : (eqb (get_or x (i - 1) 0) 0x2D && eqb (get_or x i 0) 0x2D) ≡ true → dashes (drop (i - 1) x) ≡ true
  unfolding dashes
  dashes_found h = rw (both_on, h)

  pub dashes_next : (eqb (get_or x (i - 1) 0) 0x2D && eqb (get_or x i 0) 0x2D) ≡ false → dashes (drop (i + 1 - 1) x) ≡ dashes (drop (i - 1) x)
  unfolding dashes
  dashes_next h = let e : i + 1 - 1 ≡ i = omega arith in rw (e, both_on, second_on, h)

few : (y : List ℕ) → length y ≤ 1 → dashes y ≡ false
unfolding dashes
few [] h = refl
few (a ∷ []) h = refl
few (a ∷ b ∷ y) h = absurd (omega arith)

pub dashes_end : (x : List ℕ) (i : ℕ) → 1 ≤ i → length x ≤ i → dashes (drop (i - 1) x) ≡ false
dashes_end x i h l = few (drop (i - 1) x) (simp length-drop (omega arith))

-- the text between the quotes, by the code's test of the edition
pub inner_doubled : (c : Edition) (b : Bool) (x : List ℕ) → b ≡ is_sqlite c → b ≡ true → inner c x ≡ doubled x
unfolding inner
inner_doubled Crate b x e h = absurd (false≢true (sym e ∙ h))
inner_doubled Sqlite b x e h = refl

pub inner_single : (c : Edition) (b : Bool) (x : List ℕ) → b ≡ is_sqlite c → b ≡ false → inner c x ≡ x
unfolding inner
inner_single Crate b x e h = refl
inner_single Sqlite b x e h = absurd (false≢true (sym h ∙ e))

-- ---- what each function writes
module _ {t w o : List ℕ} {d : ℕ} {r k : Record} {p q : Pen} {b : Spot} (x : List ℕ) (read : k ≡ record_at t p.next) (past : Past t p q) where
  pub a_number : {z : ℤ} → k.kind ≡ NUMBER → z ≡ number_of k → Says w (id (decimal.decimal z) ∷ []) (q, o) b → Writes (pen.source t x) w d r decimal (p, o) b
  unfolding means
  a_number m is h = record { puts = λ u. of_this x NUMBER read past (λ u n. id (decimal.decimal (number_of n)) ∷ []) m u (rw is at h) }

  pub some_pairs : {n : ℕ} → k.kind ≡ NUMBER → n ≡ min k.start 255 → Says w (pairs n) (q, o) b → Writes (pen.source t x) w d r brackets (p, o) b
  unfolding means
  some_pairs z is h = record { puts = λ u. of_this x NUMBER read past (λ u n. pairs (min n.start 255)) z u (rw is at h) }

  pub a_quote : {v : List ℕ} {c : Edition} → k.kind ≡ TEXT → v ≡ take k.len (drop k.start x) → Says w (valued TK_STRING (between (inner c v)) ∷ []) (q, o) b → Writes (pen.source_in t x c) w d r quoted (p, o) b
  unfolding means quote
  a_quote {c = c} z is h = record { puts = λ u. of_this x TEXT read past (λ u n. quote c (take n.len (drop n.start x)) ∷ []) z c (rw is at h) }

  pub a_rowid : {v : List ℕ} → k.kind ≡ TEXT → v ≡ take k.len (drop k.start x) → Says w (without v) (q, o) b → Writes (pen.source t x) w d r rowid (p, o) b
  unfolding means
  a_rowid z is h = record { puts = λ u. of_this x TEXT read past (λ u n. without (take n.len (drop n.start x))) z u (rw is at h) }

pub no_quote_lem : {t w o : List ℕ} {c : Edition} {d : ℕ} {r k : Record} {p q : Pen} (x : List ℕ) → k ≡ record_at t p.next → Past t p q → (k.kind ≡ TEXT → ⊥) → Writes (pen.source_in t x c) w d r quoted (p, o) (q, o)
unfolding means
no_quote_lem {t} {c = c} {p = p} x read past z = record { puts = λ u. of_other x TEXT read past (λ u. quote u (take (record_at t p.next).len (drop (record_at t p.next).start x)) ∷ []) z c }

-- the without-rowid text
pub not_two : {w : List ℕ} {a : Spot} (v : List ℕ) (m : Parts) → m ≡ split_of v → (m.count ≡ 2 → ⊥) → Says w (without v) a a
unfolding without split_of put emit
not_two v m e z = let f : length (parts v) ≡ m.count = rw e in record { puts = record { is = rw (f, ne_eqb m.count 2 z) } }

pub two_parts : {w u : List ℕ} {a b c : Spot} (v : List ℕ) (m : Parts) (s : Part) → m ≡ split_of v → m.count ≡ 2 → m.second ≡ Some s → u ≡ take s.len (drop s.start v)
    → Says w (bare TK_WITHOUT ∷ []) a b → Says w (id u ∷ []) b c → Says w (without v) a c
unfolding without split_of
two_parts {u = u} v m s e z h is p q =
    let f : length (parts v) ≡ 2 = rw e at z in
    let there : slice_get (parts v) 1 ≡ Some s = rw e at h in
    let g : u ≡ second_part v = rw (get_or_from_slice_get (parts v) 1 s (span 0 0) there) is in
    rw (f, ← g) (says_then p q)

-- where there are two, there is a second
two_there : (ps : List Span) → length ps ≡ 2 → slice_get ps 1 ≡ None → ⊥
two_there [] e n = let no : ⊥ = omega arith in no
two_there (p ∷ []) e n = let no : ⊥ = omega arith in no
two_there (p ∷ q ∷ ps) e n = cc

pub no_second : {w : List ℕ} {a : Spot} (v : List ℕ) (m : Parts) → m ≡ split_of v → m.count ≡ 2 → m.second ≡ None → Says w (without v) a a
unfolding split_of
no_second v m e z n = absurd (two_there (parts v) (rw e at z) (rw e at n))

-- a CHECK's source
pub no_dashes : {w v : List ℕ} {a b : Spot} (s : Bool) → s ≡ dashes v → s ≡ false → Says w (id v ∷ []) a b → Says w (sourced v) a b
unfolding sourced
no_dashes s e z p = rw (← e, z) p

pub with_dashes : {w v : List ℕ} {a b c : Spot} (s : Bool) → s ≡ dashes v → s ≡ true → Says w (id v ∷ []) a b → Says w (id newline ∷ []) b c → Says w (sourced v) a c
unfolding sourced
with_dashes s e z p q = rw (← e, z) (says_then p q)

-- the pen passes over one more record
puts_past : {t w : List ℕ} {z : Out} {a b : Spot} {q : Pen} (x : List ℕ) (u : Edition) → Puts w z a b → Past t b.0 q → Puts w (of (tokens.in_edition t x u) z.next z.tokens) a (q, b.1)
unfolding put behind
puts_past {t} {w} {z} {a} {b} {q} x u h past =
    let past' : Past t (put w z a).0 q = rw h.is at past in
    record { is = rw (h.is, ← past'.sink, ← past'.next) }

-- k is the record behind the expression
module _ {t w n : List ℕ} {d : ℕ} {r k : Record} {p e : Pen} (x : List ℕ) (skim : Writes (pen.source t x) w d r (slot run) (p, []) (e, n)) (read : k ≡ record_at t e.next) where
  behind_run_lem : (u : Edition) → e.next ≡ (placed (tokens.in_edition t x u) (tokens.node (tokens.in_edition t x u) d) run p.next).next
  unfolding means
  behind_run_lem u = puts_next (skim.puts u)

  pub the_run : {o : List ℕ} {b : Spot} {q : Pen} → (not (eqb k.kind TEXT) || eqb k.len 0) ≡ true → Writes (pen.source t x) w d r (slot run) (p, o) b → Past t b.0 q
      → Writes (pen.source t x) w d r source (p, o) (q, b.1)
  unfolding means checked
  the_run {o} {b} {q} z h past =
      let past' : (u : Edition) → Puts w (of (tokens.in_edition t x u) e.next (placed (tokens.in_edition t x u) (tokens.node (tokens.in_edition t x u) d) run p.next).tokens) (p, o) (q, b.1) = λ u. rw (behind_run_lem u) (puts_past x u (h.puts u) past) in
      record { puts = λ u. rw (← behind_run_lem u, ← read, no_source (eqb k.kind TEXT) k.len z) (past' u) }
    where
      no_source : (c : Bool) (m : ℕ) → (not c || eqb m 0) ≡ true → (c && ltb 0 m) ≡ false
      no_source false m y = refl
      no_source true zero y = refl
      no_source true (suc m) y = absurd (false≢true (sym (ne_eqb (suc m) 0 (λ f. omega arith)) ∙ y))

  pub the_source : {o v : List ℕ} {b : Spot} {q : Pen} → (not (eqb k.kind TEXT) || eqb k.len 0) ≡ false → v ≡ take k.len (drop k.start x)
      → Past t (record { sink = p.sink; next = e.next }) q → Says w (sourced v) (q, o) b → Writes (pen.source t x) w d r source (p, o) b
  unfolding means checked put
  the_source {o} {v} {b} {q} z is past h =
      let h' : (u : Edition) → Puts w (of (tokens.in_edition t x u) e.next (sourced v)) (record { sink = p.sink; next = e.next }, o) b = λ u. rw (← index past x u) (entered past h.puts) in
      record { puts = λ u. rw (← behind_run_lem u, ← read, a_source (eqb k.kind TEXT) k.len z, ← is) (record { is = (h' u).is }) }
    where
      a_source : (c : Bool) (m : ℕ) → (not c || eqb m 0) ≡ false → (c && ltb 0 m) ≡ true
      a_source false m y = absurd (false≢true (sym y))
      a_source true zero y = absurd (false≢true (sym y))
      a_source true (suc m) y = lt-ltb 0 (suc m) (omega arith)

-- ---- the table options
some_without : (x : List ℕ) → anything (without x) ≡ eqb (length (parts x)) 2
unfolding anything without
some_without x = by (eqb (length (parts x)) 2)
  where
    by : (b : Bool) → anything (cond b (bare TK_WITHOUT ∷ id (second_part x) ∷ []) []) ≡ b
    by true = refl
    by false = refl

module _ {t x w : List ℕ} {c : Edition} {d : ℕ} {r : Record} {s z : Shape} {a b f : Spot} where
  -- m are the tokens that stand between the two
  pub joined_on : {g : Spot} (m : List Token)
      → m ≡ tokens.between c (means (tokens.in_edition t x c) (tokens.node (tokens.in_edition t x c) d) r s a.0.next).tokens (means (tokens.in_edition t x c) (tokens.node (tokens.in_edition t x c) d) r z b.0.next).tokens
      → Writes (pen.source_in t x c) w d r s a b → Says w m b f → Writes (pen.source_in t x c) w d r z f g → Writes (pen.source_in t x c) w d r (both s z) a g
  unfolding means
  joined_on m e p q h =
      let n = puts_next (p.puts c) in
      record { puts = λ u. rw (rw n at e) at (puts_on (λ j. tokens.then (say m j) (means (tokens.in_edition t x c) (tokens.node (tokens.in_edition t x c) d) r z)) (p.puts c) (puts_on (means (tokens.in_edition t x c) (tokens.node (tokens.in_edition t x c) d) r z) q.puts (h.puts c))) }

-- what the code finds of the first is whether it is written
pub no_rowid : (k : Record) (x : List ℕ) → (k.kind ≡ TEXT → ⊥) → false ≡ anything (cond (eqb k.kind TEXT) (without (take k.len (drop k.start x))) [])
unfolding anything
no_rowid k x z = rw (ne_eqb k.kind TEXT z)

pub a_rowid_written : (k : Record) {v : List ℕ} {m : Parts} (x : List ℕ) → k.kind ≡ TEXT → v ≡ take k.len (drop k.start x) → m ≡ split_of v
    → eqb m.count 2 ≡ anything (cond (eqb k.kind TEXT) (without (take k.len (drop k.start x))) [])
unfolding split_of
a_rowid_written k {v} x z is e = rw (e, eq-eqb k.kind TEXT z, ← is) (sym (some_without v))

-- and the second is where it is a TEXT
second_written : (e : tokens.Source) (d j : ℕ) → anything (placed e (tokens.node e d) (maybe text) j).tokens ≡ eqb (at e j).kind TEXT
unfolding placed allowed anything
second_written e d j = by (eqb (at e j).kind NONE) (eqb (at e j).kind TEXT) refl refl
  where
    by : (m n : Bool) → eqb (at e j).kind NONE ≡ m → eqb (at e j).kind TEXT ≡ n → anything (cond (m || (n || false)) (tokens.node e d (at e j).kind j) (of e j [])).tokens ≡ n
    by m true f g = rw (eqb-true (at e j).kind TEXT g, node_text e d j, or-true m)
    by true false f g = rw (eqb-true (at e j).kind NONE f, node_none e d j)
    by false false f g = refl

pub options_plain : {t x w : List ℕ} {c : Edition} {d : ℕ} {r : Record} {a b g : Spot} → is_sqlite c ≡ false → Writes (pen.source t x) w d r rowid a b
    → Writes (pen.source t x) w d r (slot text) b g → Writes (pen.source_in t x c) w d r (both rowid (slot (maybe text))) a g
unfolding tokens.between
options_plain {c = c} z h i = joined_on [] (rw z) (in_one h) nothing (optional (in_one i))

pub options_on : {t x w o : List ℕ} {c : Edition} {d : ℕ} {r k l : Record} {p : Pen} {b f g : Spot} {n : Bool} → k ≡ record_at t p.next → Writes (pen.source t x) w d r rowid (p, o) b
    → l ≡ record_at t b.0.next → is_sqlite c ≡ true → n ≡ anything (cond (eqb k.kind TEXT) (without (take k.len (drop k.start x))) [])
    → Says w (opt (n && eqb l.kind TEXT) comma) b f → Writes (pen.source t x) w d r (slot text) f g → Writes (pen.source_in t x c) w d r (both rowid (slot (maybe text))) (p, o) g
unfolding means tokens.between
options_on {t} {x} {c = c} {d} {r} {l = l} {p = p} {b = b} {n = n} read h read2 is it q i =
    joined_on (opt (n && eqb l.kind TEXT) comma) (rw (is, it, read, read2, second_written (tokens.in_edition t x c) d b.0.next)) (in_one h) q (optional (in_one i))
