-- Laws of the parts that the renderers share.
use Rattle.std.specs.Prelude.{ℕ, ◌+◌, ◌-◌, ◌%◌, ◌≤◌, ◌<◌, ◌≡◌, refl, List, [], ◌∷◌, Bool, true, false, cond, leb, ltb, ◌&&◌, length, take, drop}
use Rattle.std.proofs.Common.{arith, sym, ◌∙◌, subst, length-drop, drop_of_length-le, take_all}
use Rattle.std.proofs.Math.Nat.{add-sub_cancel_left}
use Prim.Native.String.{String}
use Rattle.std.proofs.Math.Seq.{take-nil}
use borrow.Author.Tests.{eq-eqb, ne_eqb, le-leb, lt-leb, lt-ltb}
use Rattle.mode.specs.declared.Edition.{Edition}
use Rattle.record.specs.Record.{record_at}
use Rattle.record.specs.declared.Record.{Record}
use Rattle.grammar.specs.Kind.{NONE, LIST, TOKEN}
use Rattle.grammar.specs.Shape.{Class, Shape, said, slot, commas, row, given, ◌·◌}
use Rattle.grammar.specs.Grammar.{run, maybe}
use Rattle.laws.specs.Rest.{rest}
use Rattle.laws.specs.Text.{ascii}
use Rattle.record.specs.Laws.{nothing as blank}
use Rattle.tokens.specs.Corners.{id}
use Rattle.mode.specs.declared.Edition.TheVariants.{Crate}
use Rattle.stream.specs.Stream.{Token}
use Rattle.stream.specs.Sink as sink
use Rattle.tokens.specs.Tokens.{Out, token_of, of_kind, rows, listed, placed, comma, means, node}
use Rattle.pen.specs.declared.Pen.{Pen}
use Rattle.tokens.specs.Tokens.{in_edition}
use Rattle.pen.specs.declared.Input.{Input}
use Rattle.std.specs.Borrow.{Bor, MutBor}
use Rattle.pen.specs.Pen.{Lent, source_of, source, input, input_in, Spot, Past, Puts, Says, Writes, Always}
use Rattle.pen.specs.Laws.{puts_on}
use Rattle.pen.specs.Rows.{opt}
use Rattle.pen.specs.Places.{token_at, index, skipped, entered, optional}
use Rattle.parts.specs.Lists.{Called, EachPuts, EachBelow}
use Rattle.parts.specs.Runs.{SaidClause}

-- ---- a part of the text
module _ (x : List ℕ) (a n : ℕ) where
  pub part_none : length x < a → [] ≡ take n (drop a x)
  part_none h = rw (drop_of_length-le x {i = a} (omega arith)) (sym (take-nil n))

  pub part_rest : length x - a < n → take (length x - a) (drop a x) ≡ take n (drop a x)
  part_rest h = rest x a ∙ sym (take_all n (drop a x) (simp length-drop (omega arith)))

  pub part_whole : take (a + n - a) (drop a x) ≡ take n (drop a x)
  part_whole = rw add-sub_cancel_left

-- ---- what is lent, taken up whole
pub taken_up : {t t' x x' w w' : List ℕ} {s : Shape} {a b : Spot} → t' ≡ t → x' ≡ x → w' ≡ w → Always (source t' x') w' s a b → Always (source t x) w s a b
taken_up e f g h d r = rw (← e, ← f, ← g) (h d r)

-- ---- a record of one kind, or of another
module _ {t w o : List ℕ} {k : Record} {p q : Pen} (x : List ℕ) (n : ℕ) (read : k ≡ record_at t p.next) (past : Past t p q) where
  pub of_other : (ts : Edition → List Token) → (k.kind ≡ n → ⊥) → (u : Edition) → Puts w (of_kind (in_edition t x u) n p.next (ts u)) (p, o) (q, o)
  of_other ts z u = rw (← read, ne_eqb k.kind n z) (skipped past x u)

  -- its tokens are given by what was read
  pub of_this : {b : Spot} (f : Edition → Record → List Token) → k.kind ≡ n → (u : Edition) → Says w (f u k) (q, o) b → Puts w (of_kind (in_edition t x u) n p.next (f u (record_at t p.next))) (p, o) b
  of_this f z u h = rw (← read, eq-eqb k.kind n z, ← index past x u) (entered past h.puts)

-- a TOKEN, without a value and with one
module _ {t w o : List ℕ} {k : Record} {p q : Pen} {b : Spot} (x : List ℕ) (read : k ≡ record_at t p.next) (past : Past t p q) (z : k.kind ≡ TOKEN) where
  a_token : {v : List ℕ} → v ≡ take k.len (drop k.start x) → Says w (record { kind = k.flags % 0x8000; value = sink.given (leb 0x8000 k.flags) v } ∷ []) (q, o) b
      → (u : Edition) → Puts w (token_at (in_edition t x u) p.next) (p, o) b
  unfolding token_of
  a_token is h u = of_this x TOKEN read past (λ u k. token_of (in_edition t x u) k ∷ []) z u (rw is at h)

  pub bare_token : k.flags < 0x8000 → Says w (record { kind = k.flags; value = sink.given false [] } ∷ []) (q, o) b → (u : Edition) → Puts w (token_at (in_edition t x u) p.next) (p, o) b
  bare_token l h =
      let e : k.flags % 0x8000 ≡ k.flags = omega arith in
      a_token refl (rw (e, lt-leb 0x8000 k.flags l) h)

  pub valued_token : {v : List ℕ} → 0x8000 ≤ k.flags → v ≡ take k.len (drop k.start x) → Says w (record { kind = k.flags % 0x8000; value = sink.given true v } ∷ []) (q, o) b
      → (u : Edition) → Puts w (token_at (in_edition t x u) p.next) (p, o) b
  valued_token l is h = a_token is (rw (le-leb 0x8000 k.flags l) h)

-- ---- a LIST
module _ {t w o : List ℕ} {k : Record} {p q : Pen} (x : List ℕ) (f : Edition → ℕ → Out) (sep : List Token) (read : k ≡ record_at t p.next) (past : Past t p q) where
  pub no_list : (k.kind ≡ LIST → ⊥) → (u : Edition) → Puts w (listed (in_edition t x u) (f u) sep p.next) (p, o) (q, o)
  unfolding listed
  no_list z u = rw (← read, ne_eqb k.kind LIST z) (skipped past x u)

  pub a_list_in : {b : Spot} → k.kind ≡ LIST → (u : Edition) → Puts w (rows (f u) [] sep k.kids q.next) (q, o) b → Puts w (listed (in_edition t x u) (f u) sep p.next) (p, o) b
  unfolding listed
  a_list_in z u h = rw (← read, z, ← index past x u) (entered past h)

  pub a_list : {b : Spot} → k.kind ≡ LIST → ((u : Edition) → Puts w (rows (f u) [] sep k.kids q.next) (q, o) b) → (u : Edition) → Puts w (listed (in_edition t x u) (f u) sep p.next) (p, o) b
  a_list z h u = a_list_in z u (h u)

-- with commas or with none
pub either : {e : Lent} {w : List ℕ} {d : ℕ} {r : Record} {a b : Spot} (c : Class) (sep : Bool) → ((u : Edition) → Puts w (listed (source_of u e) (placed (source_of u e) (node (source_of u e) d) c) (opt sep comma) a.0.next) a b)
    → Writes e w d r (cond sep (commas c) (row c)) a b
unfolding means
either c true h = record { puts = h }
either c false h = record { puts = h }

-- ---- TK_ID with a text and a RUN, unless that is NONE
module _ {t w o : List ℕ} {k : Record} {p : Pen} (x : List ℕ) {v : List ℕ} (read : k ≡ record_at t p.next) where
  pub said_none : {q : Pen} → k.kind ≡ NONE → Past t p q → SaidClause (source t x) w v (p, o) (q, o)
  said_none z past = record { puts = λ d u. rw (← read, z) (skipped past x u) }

  pub said_some : {b c : Spot} → (k.kind ≡ NONE → ⊥) → Says w (id v ∷ []) (p, o) b → Always (source t x) w (slot run) b c → SaidClause (source t x) w v (p, o) c
  unfolding means
  said_some z h g =
      record { puts = λ d u. rw (← read, ne_eqb k.kind NONE z) (puts_on (placed (in_edition t x u) (node (in_edition t x u) d) (maybe run)) h.puts ((optional (g d blank)).puts u)) }

pub said_clause : {e : Lent} {w v : List ℕ} {d : ℕ} {r : Record} {a b : Spot} (s : String) → v ≡ ascii s → SaidClause e w v a b → Writes e w d r (given (said s · slot (maybe run))) a b
unfolding means
said_clause {d = d} s h p = record { puts = λ u. rw (← h) (p.puts d u) }

pub said_clause_unique : (e : Lent) (w v : List ℕ) (a b c : Spot) → SaidClause e w v a b → SaidClause e w v a c → b ≡ c
said_clause_unique e w v a b c p q = (p.puts 0 Crate).is ∙ sym (q.puts 0 Crate).is

-- ---- the comma before an element: there is none before the first, and there are commas before the others or not
pub before_first : {A : Type 0} (b : Bool) (ts : List A) → cond (b && ltb 0 0) ts [] ≡ []
before_first true ts = refl
before_first false ts = refl

pub before_next : (b : Bool) (i : ℕ) → (b && ltb 0 (i + 1)) ≡ b
before_next b i = rw (lt-ltb 0 (i + 1) (omega arith)) (by b)
  where
    by : (b : Bool) → (b && true) ≡ b
    by true = refl
    by false = refl

-- what is written of an element hangs on what is lent, and not on where it lies
module _ {i : Input} {called : Called} where
  pub each_of : (f : Input → ℕ → Out) → ((q r : Pen) (o o' : MutBor (List ℕ)) (b : Bor Input) → called q o b r o' → Puts b.now.pool.now (f b.now q.next) (q, o.now) (r, o'.now)) → EachPuts i (f i) called
  each_of f h q r o o' b e g = subst (λ (j : Input). Puts j.pool.now (f j q.next) (q, o.now) (r, o'.now)) e (h q r o o' b g)

  pub each_in : (e : Input → Lent) {d : ℕ} (c : Class) → EachBelow e d c called → (v : Edition) → EachPuts i (placed (source_of v (e i)) (node (source_of v (e i)) d) c) called
  unfolding means
  each_in e {d} c h v = each_of (λ (j : Input). placed (source_of v (e j)) (node (source_of v (e j)) d) c) (λ q r o o' b g. (h q r o o' b g blank).puts v)

  -- a LIST whose elements stand in one place: for every edition, and for the one that is asked for
  module _ {d : ℕ} {r : Record} {a b : Spot} (c : Class) (sep : Bool)
      (wrote : (v : Edition) (f : ℕ → Out) → EachPuts i f called → Puts i.pool.now (listed (source_of v (input i)) f (opt sep comma) a.0.next) a b) where
    pub list_of : EachBelow input d c called → Writes (input i) i.pool.now d r (cond sep (commas c) (row c)) a b
    list_of h = either c sep (λ v. wrote v _ (each_in input c h v))

    pub list_of_one : EachBelow input_in d c called → Writes (input_in i) i.pool.now d r (cond sep (commas c) (row c)) a b
    list_of_one h = either c sep (λ v. wrote i.edition _ (each_in input_in c h v))
