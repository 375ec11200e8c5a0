-- The ways through a renderer of a place, of an optional part and of a part under a flag or a value of the flags: one law each.
use Prim.Native.Nat.{ℕ, zero, suc, ◌-◌, ◌≤◌}
use Rattle.std.proofs.Common.{arith, sub-one, ◌∙◌, sym, subst}
use Rattle.std.specs.Prelude.{◌≡◌, List, [], ◌∷◌, Bool, cond, not, ◌||◌, take, drop}
use Rattle.std.proofs.Math.Path.{refl}
use Rattle.std.proofs.Math.Bool.{true, false, or-true}
use Rattle.std.proofs.lemmas.Bool.{false≢true}
use Rattle.std.proofs.Math.Dec.{eqb}
use borrow.Author.Tests.{eq-eqb, ne_eqb, eqb-true, ltb-false, not-true, not-false}
use Rattle.laws.specs.Tests.{and_left, and_right, or_left, or_right}
use Rattle.laws.specs.Among.{among, all}
use Rattle.record.specs.Record.{record_at}
use Rattle.record.specs.declared.Record.{Record}
use Rattle.grammar.specs.Kind.{NONE, TOKEN, RUN, TEXT}
use Rattle.grammar.specs.Shape.{Class, one, Shape, when, is, slot, given, filled, ◌·◌}
use Rattle.grammar.specs.Grammar.{run, text, node, shape}
use Rattle.grammar.specs.Slots.{allowed}
use Rattle.mode.specs.declared.Edition.{Edition}
use Rattle.tokens.specs.Corners.{id}
use Rattle.tokens.specs.Tokens as tokens
use Rattle.tokens.specs.Tokens.{Source, Out, at, behind, part, of, of_kind, token_of, flagged, rows, placed, leaf, means}
use Rattle.pen.specs.declared.Pen.{Pen}
use Rattle.tokens.specs.Tokens.{in_edition}
use Rattle.pen.specs.Pen.{Scope, pick, Lent, source_of, lent, Spot, Past, emit, put, Puts, Says, Writes}

-- a TOKEN of a RUN
abbrev pub token_at : Source → ℕ → Out
token_at e k = of_kind e TOKEN k (token_of e (at e k) ∷ [])

-- ---- what stands before and behind the record at the pen
module _ {t : List ℕ} {p q : Pen} (past : Past t p q) where
  pub index : (x : List ℕ) (v : Edition) → q.next ≡ behind (in_edition t x v) p.next
  unfolding behind
  index x v = past.next

  pub skipped : (x : List ℕ) (v : Edition) {w o : List ℕ} → Puts w (of (in_edition t x v) p.next []) (p, o) (q, o)
  unfolding behind put emit
  skipped x v = record { is = rw (← past.next, ← past.sink) }

  -- what is written from behind it on is written from before it on
  pub entered : {w o : List ℕ} {z : Out} {b : Spot} → Puts w z (q, o) b → Puts w z (p, o) b
  unfolding put
  entered h = record { is = rw past.sink at h.is }

-- ---- under a flag
module _ {e : Lent} {w : List ℕ} {d : ℕ} {r : Record} {s : Shape} {a : Spot} {bit : ℕ} {on : Bool} (h : on ≡ flagged bit r) where
  pub under : {b : Spot} → on ≡ true → Writes e w d r s a b → Writes e w d r (when bit s) a b
  unfolding means
  under so p = record { puts = λ v. rw (← h, so) (p.puts v) }

  pub not_under : on ≡ false → Writes e w d r (when bit s) a a
  unfolding means put emit
  not_under so = record { puts = λ v. record { is = rw (← h, so) } }

-- ---- flags of this value, or of another
module _ {e : Lent} {w : List ℕ} {d : ℕ} {r : Record} {s : Shape} {a : Spot} {flags : ℕ} (n : ℕ) (h : flags ≡ r.flags) where
  pub is_so : {b : Spot} → flags ≡ n → Writes e w d r s a b → Writes e w d r (is n s) a b
  unfolding means
  is_so z p = let t : eqb r.flags n ≡ true = eq-eqb r.flags n (sym h ∙ z) in record { puts = λ v. rw t (p.puts v) }

  pub is_not : (flags ≡ n → ⊥) → Writes e w d r (is n s) a a
  unfolding means put emit
  is_not z = let t : eqb r.flags n ≡ false = ne_eqb r.flags n (λ q. z (h ∙ q)) in record { puts = λ v. record { is = rw t } }

-- ---- leaves write the same at any depth
pub node_run : (e : Source) (d j : ℕ) → tokens.node e d RUN j ≡ rows (token_at e) [] [] (at e j).kids (behind e j)
unfolding tokens.node means shape
node_run e zero j = refl
node_run e (suc d) j = refl

pub node_text : (e : Source) (d j : ℕ) → tokens.node e d TEXT j ≡ of e j (id (part e (at e j)) ∷ [])
unfolding tokens.node means shape
node_text e zero j = refl
node_text e (suc d) j = refl

pub node_none : (e : Source) (d j : ℕ) → tokens.node e d NONE j ≡ of e j []
unfolding tokens.node means shape
node_none e zero j = refl
node_none e (suc d) j = refl

-- ---- the record at the pen, which is read as k
module _ {t x w o : List ℕ} {g : Scope} {d : ℕ} {r k : Record} {p : Pen} (read : k ≡ record_at t p.next) where
  -- unless NONE, unless empty
  module _ {s : Shape} where
    pub given_none : {q : Pen} → k.kind ≡ NONE → Past t p q → Writes (lent t x g) w d r (given s) (p, o) (q, o)
    unfolding means
    given_none z past = record { puts = λ u. rw (← read, z) (skipped past x (pick g u)) }

    pub given_some : {b : Spot} → (k.kind ≡ NONE → ⊥) → Writes (lent t x g) w d r s (p, o) b → Writes (lent t x g) w d r (given s) (p, o) b
    unfolding means
    given_some z h = record { puts = λ u. rw (← read, ne_eqb k.kind NONE z) (h.puts u) }

    pub filled_none : {q : Pen} → k.kids ≡ 0 → Past t p q → Writes (lent t x g) w d r (filled s) (p, o) (q, o)
    unfolding means
    filled_none z past = record { puts = λ u. rw (← read, z) (skipped past x (pick g u)) }

    pub filled_some : {b : Spot} → (k.kids ≡ 0 → ⊥) → Writes (lent t x g) w d r s (p, o) b → Writes (lent t x g) w d r (filled s) (p, o) b
    unfolding means
    filled_some z h = record { puts = λ u. rw (← read, ne_eqb k.kids 0 z) (h.puts u) }

  -- a kind that may not stand here
  pub not_placed : {c : Class} {q : Pen} → allowed c k.kind ≡ false → Past t p q → Writes (lent t x g) w d r (slot c) (p, o) (q, o)
  unfolding means placed
  not_placed z past = record { puts = λ u. rw (← read, z) (skipped past x (pick g u)) }

  -- a RUN, and a TEXT
  pub run_on : {b : Spot} {q : Pen} → k.kind ≡ RUN → Past t p q → ((u : Edition) → Puts w (rows (token_at (source_of u (lent t x g))) [] [] k.kids q.next) (q, o) b)
      → Writes (lent t x g) w d r (slot run) (p, o) b
  unfolding means placed allowed
  run_on {b} {q} z past h =
      record { puts = λ u. rw (← read, z, node_run (source_of u (lent t x g)) d p.next, ← read, ← index past x (pick g u)) (entered past (h u)) }

  pub text_on : {v : List ℕ} {b : Spot} {q : Pen} → k.kind ≡ TEXT → Past t p q → v ≡ take k.len (drop k.start x) → Says w (id v ∷ []) (q, o) b
      → Writes (lent t x g) w d r (slot text) (p, o) b
  unfolding means placed allowed
  text_on {v} {b} {q} z past read_as h =
      record { puts = λ u. rw (← read, z, node_text (source_of u (lent t x g)) d p.next, ← read, ← read_as, ← index past x (pick g u)) (entered past h.puts) }

  -- a kind from 32 up: below it there is one record less
  pub node_on : (n : ℕ) {ks : List ℕ} {b : Spot} {q : Pen} → k.kind ≡ n → among n ks ≡ true → (d ≡ 0 → ⊥) → Past t p q
      → Writes (lent t x g) w (d - 1) k (shape n) (q, o) b → Writes (lent t x g) w d r (slot (one ks)) (p, o) b
  unfolding means placed allowed tokens.node
  node_on n {ks} {b} {q} z m some past h =
      record { puts = λ u. rw (← read, z, m, deeper u d some, ← index past x (pick g u)) (entered past (h.puts u)) }
    where
      deeper : (u : Edition) (d : ℕ) → (d ≡ 0 → ⊥) → tokens.node (source_of u (lent t x g)) d n p.next ≡ means (source_of u (lent t x g)) (tokens.node (source_of u (lent t x g)) (d - 1)) k (shape n) (behind (source_of u (lent t x g)) p.next)
      deeper u zero y = absurd (y refl)
      deeper u (suc m) y = rw (sub-one, read)

-- ---- a place that also takes NONE
cond_same : (b : Bool) (z : Out) → cond b z z ≡ z
cond_same true z = refl
cond_same false z = refl

none_too : (e : Source) (d : ℕ) (ks : List ℕ) (j : ℕ) → placed e (tokens.node e d) (one (NONE ∷ ks)) j ≡ placed e (tokens.node e d) (one ks) j
unfolding placed allowed
none_too e d ks j = by (eqb (at e j).kind NONE) refl
  where
    by : (b : Bool) → eqb (at e j).kind NONE ≡ b
        → cond (b || among (at e j).kind ks) (tokens.node e d (at e j).kind j) (of e j []) ≡ cond (among (at e j).kind ks) (tokens.node e d (at e j).kind j) (of e j [])
    by false h = refl
    by true h = rw (eqb-true (at e j).kind NONE h, node_none e d j) (sym (cond_same (among NONE ks) (of e j [])))

-- ---- NONE in an optional place writes nothing, as a kind does that may not stand there
pub optional : {e : Lent} {w : List ℕ} {d : ℕ} {r : Record} {ks : List ℕ} {a b : Spot} → Writes e w d r (slot (one ks)) a b → Writes e w d r (slot (one (NONE ∷ ks))) a b
unfolding means
optional {e} {w} {d} {r} {ks} {a} {b} h = record { puts = λ u. rw (none_too (source_of u e) d ks a.0.next) (h.puts u) }

-- ---- a kind from 32 up is no RUN, and with no depth left nothing of it is written
high_among : (n : ℕ) (ks : List ℕ) → among n ks ≡ true → all (λ m. not (leaf m)) ks ≡ true → leaf n ≡ false
high_among n [] h a = absurd (false≢true h)
high_among n (k ∷ ks) h a = by (eqb n k) refl (λ (f : among n ks ≡ true). high_among n ks f (and_right (not (leaf k)) _ a))
  where
    by : (b : Bool) → eqb n k ≡ b → (among n ks ≡ true → leaf n ≡ false) → leaf n ≡ false
    by true e more = rw (eqb-true n k e) (not-true (leaf k) (and_left (not (leaf k)) _ a))
    by false e more = more (rw e at h)

high_run : (n : ℕ) → leaf n ≡ false → among n (RUN ∷ []) ≡ false
high_run n h = rw (ne_eqb n RUN (λ e. omega (arith, ltb-false n 10 h)))

not_deep : (e : Source) (d n j : ℕ) → d ≡ 0 → leaf n ≡ false → tokens.node e d n j ≡ of e j []
unfolding tokens.node
not_deep e d n j z h = rw (z, h)

-- ---- a place of kinds from 32 up that is not entered is as a RUN's
module _ {t x w : List ℕ} {g : Scope} {d : ℕ} {r k : Record} {a b : Spot} (read : k ≡ record_at t a.0.next) (h : Writes (lent t x g) w d r (slot run) a b) where
  pub other : {ks : List ℕ} → among k.kind ks ≡ false → Writes (lent t x g) w d r (slot (node ks)) a b
  unfolding means placed allowed
  other {ks} z = record { puts = λ u. rw (subst (λ (x : Record). among x.kind ks ≡ false) read z) (h.puts u) }

  pub shallow : {ks : List ℕ} → d ≡ 0 → all (λ n. not (leaf n)) ks ≡ true → Writes (lent t x g) w d r (slot (node ks)) a b
  unfolding means placed allowed
  shallow {ks} z high = by (among k.kind ks) refl
    where
      by : (m : Bool) → among k.kind ks ≡ m → Writes (lent t x g) w d r (slot (node ks)) a b
      by false e = other e
      by true e =
          let here = (record_at t a.0.next).kind in
          let e' : among here ks ≡ true = subst (λ (x : Record). among x.kind ks ≡ true) read e in
          let l = high_among here ks e' high in
          let none : (u : Edition) → Puts w (of (source_of u (lent t x g)) a.0.next []) a b = λ u. rw (high_run here l) at (h.puts u) in
          record { puts = λ u. rw (e', ne_eqb here RUN (λ q. omega (arith, ltb-false here 10 l)), not_deep (source_of u (lent t x g)) d here a.0.next z l) (none u) }

-- ---- a place of one kind: it is entered, or not
module _ {t x w o : List ℕ} {g : Scope} {d n : ℕ} {r k : Record} {p : Pen} (high : leaf n ≡ false) (read : k ≡ record_at t p.next) where
  pub shut : {b : Spot} → (eqb d 0 || not (eqb k.kind n)) ≡ true → Writes (lent t x g) w d r (slot run) (p, o) b → Writes (lent t x g) w d r (slot (node (n ∷ []))) (p, o) b
  shut {b} z h = by (eqb d 0) (eqb k.kind n) refl refl z
    where
      by : (u v : Bool) → eqb d 0 ≡ u → eqb k.kind n ≡ v → (u || not v) ≡ true → Writes (lent t x g) w d r (slot (node (n ∷ []))) (p, o) b
      by true v f i y = shallow read h (eqb-true d 0 f) (rw high)
      by false true f i y = absurd (false≢true y)
      by false false f i y = other read h (rw i)

  pub opened : {b : Spot} {q : Pen} → (eqb d 0 || not (eqb k.kind n)) ≡ false → Past t p q → Writes (lent t x g) w (d - 1) k (shape n) (q, o) b
      → Writes (lent t x g) w d r (slot (node (n ∷ []))) (p, o) b
  opened {b} {q} z past h =
      node_on read n (eqb-true k.kind n (not-false (eqb k.kind n) (or_right (eqb d 0) _ z))) (self n) (λ e. false≢true (sym (or_left (eqb d 0) _ z) ∙ eq-eqb d 0 e)) past h
    where
      self : (n : ℕ) → among n (RUN ∷ n ∷ []) ≡ true
      self n = rw (eq-eqb n n refl) (or-true (eqb n RUN))

pub left_some : (d : ℕ) (b : Bool) → (eqb d 0 || b) ≡ false → 1 ≤ d
left_some zero b z = absurd (false≢true (sym z))
left_some (suc d) b z = omega arith

-- the same where the place comes last
pub optional_last : {e : Lent} {w : List ℕ} {d : ℕ} {r : Record} {s : Shape} {ks : List ℕ} {a b : Spot} → Writes e w d r (s · slot (one ks)) a b → Writes e w d r (s · slot (one (NONE ∷ ks))) a b
unfolding means
optional_last {e} {w} {d} {r} {s} {ks} {a} h = record { puts = λ u. rw (none_too (source_of u e) d ks (means (source_of u e) (tokens.node (source_of u e) d) r s a.0.next).next) (h.puts u) }

-- two places that take the record's kind alike
pub alike : {t x w o : List ℕ} {g : Scope} {d : ℕ} {r k : Record} {p : Pen} {ks ls : List ℕ} {b : Spot} → k ≡ record_at t p.next → among k.kind ks ≡ among k.kind ls
    → Writes (lent t x g) w d r (slot (one ks)) (p, o) b → Writes (lent t x g) w d r (slot (one ls)) (p, o) b
unfolding means placed allowed
alike read same h = record { puts = λ u. rw (← read, ← same) (rw (← read) at (h.puts u)) }
