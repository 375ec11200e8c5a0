-- Laws of the check of one record: what each way through the tests of a record comes to.
use Rattle.std.specs.Prelude.{ℕ, ◌+◌, ◌/◌, ◌%◌, ◌≤◌, ◌<◌, ◌≡◌, List, [], ◌∷◌, Bool, not, cond, ◌&&◌, ◌||◌, leb, ltb, eqb, length, replicate, Err}
use Rattle.std.proofs.Common.{arith, ◌∙◌, ap, sym}
use Rattle.std.proofs.Math.Path.{refl}
use Rattle.std.proofs.Math.Bool.{true, false, or-false, or-true}
use Rattle.std.specs.Bool.{beq}
use Rattle.std.proofs.lemmas.Bool.{false≢true}
use Rattle.std.proofs.lemmas.List.{length-replicate}
use borrow.Author.Tests.{eq-eqb, ne_eqb, eqb-true, eqb-false, lt-leb, le-leb, not-true, not-false}
use Rattle.laws.specs.Below.{below, at}
use Rattle.laws.specs.First.{first}
use Rattle.laws.specs.Tests.{and_left, and_right}
use Rattle.utf8.specs.Rfc3629.{boundary}
use Rattle.spelling.specs.Spelling.{known}
use Rattle.spelling.specs.Laws.{early_known}
use Rattle.record.specs.Record.{mark_ok}
use Rattle.record.specs.declared.Record.{Record}
use Rattle.grammar.specs.Kind.{LIST, TOKEN, RUN, TEXT, NUMBER}
use Rattle.grammar.specs.Shape.{Class, one, list, one_or, small, ruled}
use Rattle.grammar.specs.Grammar.{shape}
use Rattle.grammar.specs.Slots.{slots_of, flags_below, allowed, elements}
use Rattle.grammar.specs.Classes.{classes, classes_held, class_at, token_at, token_is, small_at}
use Rattle.grammar.specs.Packed.{kinds_held, rule_of}
use Rattle.grammar.specs.Laws.{allowed_held, no_flags_fit, rule_flags, rule_slots}
use Rattle.tree.specs.Check.{Answer, Admitted, holds, flags_fit, has_part, fields_fit, range_fits, fits, inside}
use Rattle.tree.specs.declared.Refusal.{Refusal}
use Rattle.tree.specs.declared.Refusal.TheVariants.{Mark, Misfit, Outside, Deep}
use Rattle.tree.specs.Walk.{zeros, kind_fits, part_inside, used_fault, fault_of}

-- ---- only one place is narrow
narrow : Class → Bool
narrow (one ks) = false
narrow (list c) = false
narrow (one_or ks c) = false
narrow small = true
narrow (ruled u) = false

narrow_tested : below (λ n. beq (narrow (class_at n)) (eqb n small_at)) classes_held ≡ true
unfolding narrow class_at classes
narrow_tested = refl

wide : (c : Class) (r : Record) → narrow c ≡ false → true ≡ range_fits c r
unfolding narrow range_fits
wide (one ks) r h = refl
wide (list c) r h = refl
wide (one_or ks c) r h = refl
wide small r h = absurd (false≢true (sym h))
wide (ruled u) r h = refl

beq_false : (a b : Bool) → beq a b ≡ true → b ≡ false → a ≡ false
beq_false true true h e = e
beq_false true false h e = absurd (false≢true h)
beq_false false b h e = refl

pub range_wide : (n : ℕ) (r : Record) → n < classes_held → (n ≡ small_at → ⊥) → true ≡ range_fits (class_at n) r
range_wide n r h e =
    wide (class_at n) r
    (beq_false (narrow (class_at n)) (eqb n small_at) (at (λ m. beq (narrow (class_at m)) (eqb m small_at)) classes_held narrow_tested n h) (ne_eqb n small_at e))

pub range_small : (n : ℕ) (r : Record) → n ≡ small_at → ltb r.start 256 && eqb r.len 0 ≡ range_fits (class_at n) r
unfolding class_at classes range_fits
range_small n r e = rw e

-- ---- flags and children
pub flags_token : (r : Record) (b : Bool) → r.kind ≡ TOKEN → b ≡ known (r.flags % 0x8000) → b ≡ flags_fit r
unfolding flags_fit
flags_token r b k e = rw (eq-eqb r.kind TOKEN k) e

pub no_flags : (r : Record) → r.kind < kinds_held → r.flags ≡ 0 → true ≡ flags_fit r
unfolding flags_fit
no_flags r h z = by (eqb r.kind TOKEN) refl
  where
    by : (b : Bool) → eqb r.kind TOKEN ≡ b → true ≡ cond b (known (r.flags % 0x8000)) (ltb r.flags (flags_below (shape r.kind)))
    by true e = rw z (early_known 0 (omega arith))
    by false e = rw z (sym (no_flags_fit r.kind h))

pub flags_rule : (m : ℕ) (r : Record) → m ≡ rule_of r.kind → r.kind < kinds_held → (r.kind ≡ TOKEN → ⊥) → ltb r.flags (m % 256) ≡ flags_fit r
unfolding flags_fit
flags_rule m r e h k = rw (ne_eqb r.kind TOKEN k, e, rule_flags r.kind h)

-- b tells whether a record has as many children as it must, in whatever place
abbrev pub Counts : Record → Bool → Type 0
Counts r b = (c : Class) → b ≡ eqb r.kids (length (holds c r))

any_count : (c : Class) (r : Record) → (eqb r.kind LIST || eqb r.kind RUN) ≡ true → true ≡ eqb r.kids (length (holds c r))
unfolding holds
any_count c r h = by (eqb r.kind LIST) (eqb r.kind RUN) h
  where
    by : (a b : Bool) → (a || b) ≡ true
        → true ≡ eqb r.kids (length (cond a (replicate r.kids (elements c)) (cond b (replicate r.kids (one (TOKEN ∷ []))) (slots_of (shape r.kind)))))
    by true b e = rw (length-replicate r.kids (elements c)) (sym (eq-eqb r.kids r.kids refl))
    by false true e = rw (length-replicate r.kids (one (TOKEN ∷ []))) (sym (eq-eqb r.kids r.kids refl))
    by false false e = absurd (false≢true e)

holds_slots : (c : Class) (r : Record) → (eqb r.kind LIST || eqb r.kind RUN) ≡ false → holds c r ≡ slots_of (shape r.kind)
unfolding holds
holds_slots c r h = by (eqb r.kind LIST) (eqb r.kind RUN) h
  where
    by : (a b : Bool) → (a || b) ≡ false
        → cond a (replicate r.kids (elements c)) (cond b (replicate r.kids (one (TOKEN ∷ []))) (slots_of (shape r.kind))) ≡ slots_of (shape r.kind)
    by true b e = absurd (false≢true (sym e))
    by false true e = absurd (false≢true (sym e))
    by false false e = refl

slot_count : (m : ℕ) (r : Record) → m ≡ rule_of r.kind → r.kind < kinds_held → (eqb r.kind LIST || eqb r.kind RUN) ≡ false → Counts r (eqb r.kids (m / 256))
slot_count m r e h k c = rw (holds_slots c r k, e, rule_slots r.kind h)

-- as many as the kind's rule m says, or another number: then only a LIST and a RUN may have it
module _ (m : ℕ) (r : Record) (e : m ≡ rule_of r.kind) (h : r.kind < kinds_held) where
  pub as_said : r.kids ≡ m / 256 → Counts r true
  as_said k c = by (eqb r.kind LIST || eqb r.kind RUN) refl
    where
      by : (b : Bool) → (eqb r.kind LIST || eqb r.kind RUN) ≡ b → true ≡ eqb r.kids (length (holds c r))
      by true t = any_count c r t
      by false t = sym (eq-eqb r.kids (m / 256) k) ∙ slot_count m r e h t c

  pub not_as_said : (r.kids ≡ m / 256 → ⊥) → Counts r (eqb r.kind LIST || eqb r.kind RUN)
  not_as_said k c = by (eqb r.kind LIST || eqb r.kind RUN) refl
    where
      by : (b : Bool) → (eqb r.kind LIST || eqb r.kind RUN) ≡ b
          → (eqb r.kind LIST || eqb r.kind RUN) ≡ eqb r.kids (length (holds c r))
      by true t = t ∙ any_count c r t
      by false t = t ∙ (sym (ne_eqb r.kids (m / 256) k) ∙ slot_count m r e h t c)

-- ---- the record in its place
pub kind_held : (n : ℕ) (r : Record) (b : Bool) → n < classes_held → b ≡ allowed (class_at n) r.kind → not b ≡ false → r.kind < kinds_held
kind_held n r b h q z = allowed_held n r.kind h (sym q ∙ not-false b z)

-- the tests of a record in a place, by its kind, one behind the other: each that fails, and all
module _ (c : Class) (r : Record) (a : Bool) (ae : a ≡ allowed c r.kind) where
  pub not_allowed : not a ≡ true → false ≡ kind_fits c r
  unfolding kind_fits
  not_allowed z = rw (← ae, not-true a z)

  module _ (az : not a ≡ false) (k : Bool) (ke : k ≡ eqb r.kids (length (holds c r))) where
    pub miscounted : not k ≡ true → false ≡ kind_fits c r
    unfolding kind_fits
    miscounted z = rw (← ae, not-false a az, ← ke, not-true k z)

    pub all_fit : not k ≡ false → (f : Bool) → f ≡ flags_fit r → f ≡ kind_fits c r
    unfolding kind_fits
    all_fit z f fe = rw (← ae, not-false a az, ← ke, not-false k z) fe

-- ---- a TOKEN has no children
token_slots : slots_of (shape TOKEN) ≡ []
unfolding slots_of shape
token_slots = refl

pub token_holds : (c : Class) (r : Record) → r.kind ≡ TOKEN → holds c r ≡ []
unfolding holds
token_holds c r k =
    let s : slots_of (shape r.kind) ≡ [] = ap (λ (n : ℕ). slots_of (shape n)) k ∙ token_slots in
    rw (ne_eqb r.kind LIST (λ z. omega arith), ne_eqb r.kind RUN (λ z. omega arith), s)

-- what the place of a RUN's TOKENs asks
module _ (r : Record) where
  pub no_token : (r.kind ≡ TOKEN → ⊥) → false ≡ kind_fits (class_at token_at) r
  unfolding kind_fits allowed
  no_token h = rw (token_is, ne_eqb r.kind TOKEN h)

  module _ (t : r.kind ≡ TOKEN) where
    token_tests : kind_fits (class_at token_at) r ≡ (eqb r.kids 0 && known (r.flags % 0x8000))
    unfolding kind_fits flags_fit allowed
    token_tests = rw (token_is, token_holds (one (TOKEN ∷ [])) r t, eq-eqb r.kind TOKEN t)

    pub token_kids : (r.kids ≡ 0 → ⊥) → false ≡ kind_fits (class_at token_at) r
    token_kids h = rw (token_tests, ne_eqb r.kids 0 h)

    pub token_fit : r.kids ≡ 0 → (b : Bool) → b ≡ known (r.flags % 0x8000) → b ≡ kind_fits (class_at token_at) r
    token_fit k b be = rw (token_tests, eq-eqb r.kids 0 k) be

pub fitting_token : (r : Record) (b : Bool) → b ≡ kind_fits (class_at token_at) r → not b ≡ false → r.kind ≡ TOKEN
fitting_token r b be h = by (eqb r.kind TOKEN) refl
  where
    by : (k : Bool) → eqb r.kind TOKEN ≡ k → r.kind ≡ TOKEN
    by true e = eqb-true r.kind TOKEN e
    by false e = absurd (false≢true (no_token r (eqb-false r.kind TOKEN e) ∙ sym be ∙ not-false b h))

-- ---- the text part
module _ (r : Record) where
  pub behind_text : TEXT < r.kind → false ≡ has_part r
  unfolding has_part
  behind_text h = rw (ne_eqb r.kind TEXT (λ z. omega arith), ne_eqb r.kind TOKEN (λ z. omega arith))

  pub token_part : r.kind ≡ TOKEN → leb 0x8000 r.flags ≡ has_part r
  unfolding has_part
  token_part e = rw e

  pub other_part : (r.kind ≡ TOKEN → ⊥) → eqb r.kind TEXT ≡ has_part r
  unfolding has_part
  other_part e = rw (ne_eqb r.kind TOKEN e, or-false)

  pub zeros_fit : zeros r ≡ true → true ≡ fields_fit r
  unfolding fields_fit zeros
  zeros_fit z = rw (z, or-true, or-true)

  pub number_fits : r.kind ≡ NUMBER → true ≡ fields_fit r
  unfolding fields_fit
  number_fits e = rw (eq-eqb r.kind NUMBER e, or-true)

  pub part_fits : zeros r ≡ false → (r.kind ≡ NUMBER → ⊥) → (b : Bool) → b ≡ has_part r → b ≡ fields_fit r
  unfolding fields_fit zeros
  part_fits z e b be = rw (z, ne_eqb r.kind NUMBER e, or-false) be

  module _ (x : List ℕ) where
    pub past_text : length x < r.start + r.len → false ≡ part_inside x r
    unfolding part_inside
    past_text l = rw (lt-leb (r.start + r.len) (length x) l)

    module _ (l : r.start + r.len ≤ length x) (p : Bool) (pe : p ≡ boundary x r.start) where
      pub starts_within : not p ≡ true → false ≡ part_inside x r
      unfolding part_inside
      starts_within h = rw (le-leb (r.start + r.len) (length x) l, ← pe, not-true p h)

      pub a_part : not p ≡ false → (q : Bool) → q ≡ boundary x (r.start + r.len) → q ≡ part_inside x r
      unfolding part_inside
      a_part h q qe = rw (le-leb (r.start + r.len) (length x) l, ← pe, not-false p h) qe

    module _ (b : Bool) (be : b ≡ has_part r) where
      pub no_part : b ≡ false → true ≡ inside x r
      unfolding inside
      no_part h = rw (← be, h)

      pub with_part : b ≡ true → (d : Bool) → d ≡ part_inside x r → d ≡ inside x r
      unfolding inside part_inside
      with_part h d de = rw (← be, h) de

-- ---- the fault in bytes 8-15
zeros_range : (c : Class) (r : Record) → r.start ≡ 0 → r.len ≡ 0 → range_fits c r ≡ true
unfolding range_fits
zeros_range small r s l = rw (s, l)
zeros_range (one ks) r s l = refl
zeros_range (list c) r s l = refl
zeros_range (one_or ks c) r s l = refl
zeros_range (ruled u) r s l = refl

module _ (x : List ℕ) (c : Class) (r : Record) (i : ℕ) where
  pub all_zero : boundary x 0 ≡ true → zeros r ≡ true → Admitted ≡ used_fault x c r i
  unfolding used_fault zeros inside
  all_zero b z =
      let s = eqb-true r.start 0 (and_left (eqb r.start 0) (eqb r.len 0) z) in
      let l = eqb-true r.len 0 (and_right (eqb r.start 0) (eqb r.len 0) z) in
      rw (← zeros_fit r z, zeros_range c r s l, s, l, b, le-leb 0 (length x) (omega arith), or-true)

  module _ (d : Bool) (de : d ≡ fields_fit r) where
    pub fields_off : not d ≡ true → Err (Misfit i) ≡ used_fault x c r i
    unfolding used_fault
    fields_off z = rw (← de, not-true d z)

    module _ (dz : not d ≡ false) (g : Bool) (ge : g ≡ range_fits c r) where
      pub range_off : not g ≡ true → Err (Misfit i) ≡ used_fault x c r i
      unfolding used_fault
      range_off z = rw (← de, not-false d dz, ← ge, z)

      module _ (gz : not g ≡ false) (n : Bool) (ne : n ≡ inside x r) where
        pub part_off : not n ≡ true → Err (Outside i) ≡ used_fault x c r i
        unfolding used_fault
        part_off z = rw (← de, not-false d dz, ← ge, gz, ← ne, z)

        pub sound : not n ≡ false → Admitted ≡ used_fault x c r i
        unfolding used_fault
        sound z = rw (← de, not-false d dz, ← ge, gz, ← ne, z)

-- a TOKEN with no value uses no bytes, and one with a value has a part
module _ (x : List ℕ) (r : Record) (i : ℕ) (k : r.kind ≡ TOKEN) where
  module _ (h : r.flags < 0x8000) where
    no_value : has_part r ≡ false
    no_value = sym (token_part r k) ∙ lt-leb 0x8000 r.flags h

    bare_fields : fields_fit r ≡ zeros r
    unfolding fields_fit zeros
    bare_fields = rw (no_value, k)

    pub bare_token : (z : Bool) → z ≡ zeros r → z ≡ true → Admitted ≡ used_fault x (class_at token_at) r i
    unfolding used_fault range_fits
    bare_token z ze t = rw (token_is, bare_fields, ← ze, t, ← no_part r x false (sym no_value) refl)

    pub stray_bytes : (z : Bool) → z ≡ zeros r → z ≡ false → Err (Misfit i) ≡ used_fault x (class_at token_at) r i
    unfolding used_fault range_fits
    stray_bytes z ze t = rw (token_is, bare_fields, ← ze, t)

  module _ (h : 0x8000 ≤ r.flags) (d : Bool) (de : d ≡ part_inside x r) where
    a_value : has_part r ≡ true
    a_value = sym (token_part r k) ∙ le-leb 0x8000 r.flags h

    value_fields : fields_fit r ≡ true
    unfolding fields_fit
    value_fields = rw a_value

    pub value_off : not d ≡ true → Err (Outside i) ≡ used_fault x (class_at token_at) r i
    unfolding used_fault range_fits
    value_off z = rw (token_is, value_fields, ← with_part r x true (sym a_value) refl d de, z)

    pub value_sound : not d ≡ false → Admitted ≡ used_fault x (class_at token_at) r i
    unfolding used_fault range_fits
    value_sound z = rw (token_is, value_fields, ← with_part r x true (sym a_value) refl d de, z)

-- ---- the first fault
regroup : (a k f g : Bool) → (a && (k && (f && g))) ≡ ((a && (k && f)) && g)
regroup true true f g = refl
regroup true false f g = refl
regroup false k f g = refl

fits_apart : (c : Class) (r : Record) → fits c r ≡ (kind_fits c r && (fields_fit r && range_fits c r))
unfolding fits kind_fits
fits_apart c r = regroup (allowed c r.kind) (eqb r.kids (length (holds c r))) (flags_fit r) (fields_fit r && range_fits c r)

-- two tests, and a third behind them
module _ (d : Bool) (i : ℕ) where
  abbrev two : Bool → Bool → Answer
  two g n = first ((not g, Err (Misfit i)) ∷ (not n, Err (Outside i)) ∷ []) Admitted

  abbrev three : Bool → Bool → Answer
  three g n = first ((not g, Err (Misfit i)) ∷ (not n, Err (Outside i)) ∷ (d, Err (Deep i)) ∷ []) Admitted

  either : (g n : Bool) (e : Refusal) → Err e ≡ two g n → Err e ≡ three g n
  either true true e h = absurd (cc)
  either true false e h = h
  either false n e h = h

  neither : (g n : Bool) → Admitted ≡ two g n → cond d (Err (Deep i)) Admitted ≡ three g n
  neither true true h = refl
  neither true false h = absurd (cc)
  neither false n h = absurd (cc)

module _ (x : List ℕ) (r : Record) (i left : ℕ) (c : Class) where
  pub bad_mark : (m : Bool) → m ≡ mark_ok r → not m ≡ true → Err (Mark i) ≡ fault_of x r i left (fits c r)
  unfolding fault_of
  bad_mark m me h = rw (← me, not-true m h)

  module _ (m : Bool) (me : m ≡ mark_ok r) (mz : not m ≡ false) (k : Bool) (ke : k ≡ kind_fits c r) where
    pub misfit : not k ≡ true → Err (Misfit i) ≡ fault_of x r i left (fits c r)
    unfolding fault_of
    misfit h = rw (← me, mz, fits_apart c r, ← ke, not-true k h)

    module _ (kz : not k ≡ false) where
      fits_now : fits c r ≡ (fields_fit r && range_fits c r)
      fits_now = rw (fits_apart c r, ← ke, not-false k kz)

      pub used_off : (e : Refusal) → Err e ≡ used_fault x c r i → Err e ≡ fault_of x r i left (fits c r)
      unfolding fault_of used_fault
      used_off e h = rw (← me, mz, fits_now) (either (eqb left 0) i (fields_fit r && range_fits c r) (inside x r) e h)

      module _ (z : Admitted ≡ used_fault x c r i) where
        none_used : cond (eqb left 0) (Err (Deep i)) Admitted ≡ fault_of x r i left (fits c r)
        unfolding fault_of used_fault
        none_used = rw (← me, mz, fits_now) (neither (eqb left 0) i (fields_fit r && range_fits c r) (inside x r) z)

        pub deep : left ≡ 0 → Err (Deep i) ≡ fault_of x r i left (fits c r)
        deep h = rw (eq-eqb left 0 h) at none_used

        pub fine : (left ≡ 0 → ⊥) → Admitted ≡ fault_of x r i left (fits c r)
        fine h = rw (ne_eqb left 0 h) at none_used
