-- Laws of append, for the proofs of its functions.
use Rattle.std.specs.Prelude.{ℕ, ◌+◌, ◌-◌, ◌^◌, ◌≤◌, ◌<◌, ◌≡◌, refl, List, [], ◌∷◌, Bool, Ok, Err, Option, true, false, not, cond, ◌&&◌, ◌||◌, ltb}
use Rattle.std.proofs.Common.{arith, ◌∙◌, sym, zero-add, suc-ne-zero}
use Rattle.std.proofs.Math.Path.{ap}
use Rattle.std.proofs.Math.Bool.{and-false}
use Rattle.std.proofs.Math.ListN.{length}
use borrow.Author.Tests.{ne_eqb, lt-ltb, le-ltb, ltb-true, ltb-false}
use Rattle.std.specs.Borrow.{Bor}
use Rattle.std.specs.Bool.{then_some}
use Rattle.utf8.specs.Rfc3629 as utf8
use Rattle.utf8.specs.Rfc3629.{Text, none, Encoding, Encoded}
use Rattle.utf8.specs.Laws as utf8laws
use Rattle.utf8.specs.Laws.{encoded_unique, number_broken, place_within}
use Rattle.utf8.proofs.Decided.{decided}
use Rattle.utf8.specs.declared.Broken as utf8broken
use Rattle.spelling.specs.Spelling.{known, spelling}
use Rattle.laws.specs.Tests.{or_left, or_right}
use Rattle.laws.specs.First.{first, within, all_passed}
use Rattle.stream.specs.Stream.{added, adds}
use Rattle.stream.specs.Sink.{State, most, pour, mark, step, given, value_of}
use Rattle.stream.specs.Laws.{count_fits}
use Rattle.stream.specs.Length.{longest_token, adds_length, given_size}
use Rattle.append.specs.declared.Stream.{Stream}
use Rattle.append.specs.declared.Refusal.{Refusal}
use Rattle.append.specs.declared.Refusal.TheVariants.{Malformed, Unknown, TooLong, Broken, NoRoom}
use Rattle.append.specs.Append.{Answer, Appends, fault, number_of, present, token_of, news, longest, broken, unsound, before, room, answer_to, record_after, output_after, number, place}
use Rattle.append.specs.Steps.{Check, Checks, Ample, room_test, and_room, Verdict, Writes, emitted, counted}

-- no bytes are a text
no_bytes : (v : List ℕ) → length v ≡ 0 → Text v
no_bytes [] e = none
no_bytes (x ∷ v) e = absurd (suc-ne-zero (length v) e)

-- bytes that are broken are refused, and how they are is not lost
is_broken : (b : utf8broken.Broken) → broken (Err b) ≡ true
unfolding broken
is_broken b = ap not (ne_eqb (utf8.number (Err b)) 0 (number_broken b))

fault_place : (e : Encoding) → utf8.place (Err (fault e)) ≡ utf8.place e
fault_place (Ok u) = refl
fault_place (Err b) = refl

-- ---- a record that appends leave
pub record Sound (rec : Stream) (size : ℕ) : Type 0 where
  pub within : rec.count ≤ size
  pub line : rec.line ≤ rec.count
  pub column : rec.column ≤ rec.count

pub is_sound : (rec : Stream) (size : ℕ) → unsound rec size ≡ false → Sound rec size
unfolding unsound
is_sound rec size e =
    let rest = or_right (ltb size rec.count) (ltb rec.count rec.line || ltb rec.count rec.column) e in
    record {
      within = ltb-false size rec.count (or_left (ltb size rec.count) _ e);
      line = ltb-false rec.count rec.line (or_left (ltb rec.count rec.line) (ltb rec.count rec.column) rest);
      column = ltb-false rec.count rec.column (or_right (ltb rec.count rec.line) (ltb rec.count rec.column) rest);
    }

pub sound_is : (rec : Stream) (size : ℕ) → Sound rec size → unsound rec size ≡ false
unfolding unsound
sound_is rec size s = rw (le-ltb size rec.count s.within, le-ltb rec.count rec.line s.line, le-ltb rec.count rec.column s.column)

-- ---- the refusals 1, 4, 2: each return is the first condition that holds
module _ (rec : Stream) (size token : ℕ) (value : List ℕ) where
  any : (r : Check) → ((e : Encoding) → r ≡ first (within Err (before e rec size token value)) (Ok tt)) → Checks rec size token value r
  any r is = let d = decided value in record { encoding = d.0; encoded = d.1; is = is d.0 }

  pub malformed : unsound rec size ≡ true → Checks rec size token value (Err Malformed)
  unfolding before
  malformed h = any (Err Malformed) (λ e. rw h)

  module _ (k : Bool) (c : unsound rec size ≡ false) (is_Known : k ≡ known (number_of token)) where
    pub unknown : not k ≡ true → Checks rec size token value (Err Unknown)
    unfolding before
    unknown h = any (Err Unknown) (λ e. rw (c, ← is_Known, h))

    -- no value bytes, no more to refuse
    pub empty : not k ≡ false → length value ≡ 0 → Checks rec size token value (Ok tt)
    unfolding before broken
    empty kn z =
        record { encoding = Ok tt; encoded = no_bytes value z; is = rw (c, ← is_Known, kn, z, and-false) }

    module _ (p : Bool) (kn : not k ≡ false) (is-present : p ≡ present token) where
      pub stray : not p ≡ true → (length value ≡ 0 → ⊥) → Checks rec size token value (Err Unknown)
      unfolding before
      stray h s = any (Err Unknown) (λ e. rw (c, ← is_Known, kn, ← is-present, h, lt-ltb 0 (length value) (omega arith)))

      module _ (st : not p ≡ false) where
        pub too_long : longest < length value → Checks rec size token value (Err TooLong)
        unfolding before
        too_long h = any (Err TooLong) (λ e. rw (c, ← is_Known, kn, ← is-present, st, lt-ltb longest (length value) h))

        module _ (e : Encoding) (l : length value ≤ longest) (en : Encoded value e) where
          pub ill : (b : utf8broken.Broken) → e ≡ Err b → Checks rec size token value (Err (Broken b))
          unfolding before
          ill b h =
              record {
                encoding = Err b;
                encoded = rw h at en;
                is = rw (c, ← is_Known, kn, ← is-present, st, le-ltb longest (length value) l, is_broken b);
              }

          pub fine : e ≡ Ok tt → Checks rec size token value (Ok tt)
          unfolding before broken
          fine h =
              record {
                encoding = Ok tt;
                encoded = rw h at en;
                is = rw (c, ← is_Known, kn, ← is-present, st, le-ltb longest (length value) l);
              }

-- ---- the bytes
value_given : (p : Bool) (value : Bor (List ℕ)) → value_of (then_some p value) ≡ given p value.now
value_given true value = refl
value_given false value = refl

pub emits : (x : State) (b p : Bool) (at : ℕ) (out word : List ℕ) (value : Bor (List ℕ)) (v : Option (Bor (List ℕ))) (token k : ℕ) → k ≡ number_of token → p ≡ present token
    → v ≡ then_some p value → x ≡ step (record { spaced = b; at = at }, out) k word (value_of v) → x ≡ emitted b at out token word value.now
unfolding emitted
emits x b p at out word value v token k ek ep ev e = rw (← ep, ← value_given p value, ← ev, ← ek) e

-- the word that is looked up
pub word_is : (word : List ℕ) (token k : ℕ) → k ≡ number_of token → word ≡ spelling k → word ≡ spelling (number_of token)
word_is word token k e w = rw e at w

-- ---- how many they are: a count never stops short of them
pub news_counted : (b : Bool) (token : ℕ) (value : List ℕ) → length value < 2 ^ 63 → length (adds b (token_of token value)) ≤ most
unfolding token_of
news_counted b token value h = omega (arith, adds_length b (token_of token value), given_size (present token) value)

-- where nothing was before them
pub counts : (x : State) (b : Bool) (token : ℕ) (word value : List ℕ) → x ≡ emitted b 0 [] token word value → x.0.at ≡ counted b token word value
unfolding counted
counts x b token word value e = ap (λ (s : State). s.0.at) e

pub measured : (b : Bool) (token : ℕ) (word value : List ℕ) (n : ℕ) → length value < 2 ^ 63 → word ≡ spelling (number_of token) → n ≡ counted b token word value
    → n ≡ length (adds b (token_of token value))
unfolding counted emitted step mark pour adds token_of
measured b token word value n h w e =
    let k = number_of token in
    let m = length (added b k (spelling k) (given (present token) value)) in
    let l : m ≤ most = news_counted b token value h in
    (rw w at e) ∙ count_fits 0 m (omega arith) ∙ zero-add m

-- ---- no token adds more than a space and the longest spelling beside its value
pub surely_fits : (rec : Stream) (token : ℕ) (value : List ℕ) (n : ℕ) → length value + longest_token ≤ n → length (news rec token value) ≤ n
unfolding news token_of
surely_fits rec token value n h = omega (arith, adds_length rec.spaced (token_of token value), given_size (present token) value)

-- ---- 8, or not
pub ample_room : (rec : Stream) (size token : ℕ) (value : List ℕ) → Ample rec size (length value) → Ok tt ≡ room_test rec size (length (news rec token value))
ample_room rec size token value a =
    let n = length (news rec token value) in
    rw (le-ltb (size - rec.count) n (surely_fits rec token value (size - rec.count) a.fits))

module _ (rec : Stream) (size token : ℕ) (value : List ℕ) (n : ℕ) (e : n ≡ length (news rec token value)) where
  pub full : size - rec.count < n → Err (NoRoom n) ≡ room_test rec size (length (news rec token value))
  full h = rw (← e, lt-ltb (size - rec.count) n h)

  pub not_full : n ≤ size - rec.count → Ok tt ≡ room_test rec size (length (news rec token value))
  not_full h = rw (← e, le-ltb (size - rec.count) n h)

no_room : (rec : Stream) (out : List ℕ) (token : ℕ) (value : List ℕ) (n : ℕ) → n ≡ length (news rec token value) → length out - rec.count < n
    → Writes rec out token value (Err (NoRoom n)) rec out
unfolding room record_after output_after
no_room rec out token value n e h =
    record { answers = rw (← e, lt-ltb (length out - rec.count) n h); leave = refl; writes = refl }

-- ---- the first fitting refusal, and where there is none
same_refusal : (a b : Refusal) → ◌≡◌ {A = Check} (Err a) (Err b) → a ≡ b
same_refusal a b e = cc

pub not_fine : (a : Refusal) → ◌≡◌ {A = Check} (Err a) (Ok tt) → ⊥
not_fine a e = let z : ◌≡◌ {A = ℕ} 0 1 = cc in omega arith

-- what is asked first, and then of what is left
first_err : (cs : List (Bool × Refusal)) (a : Refusal) (o : Answer) → ◌≡◌ {A = Check} (Err a) (first (within Err cs) (Ok tt)) → Err a ≡ first (within Err cs) o
first_err [] a o e = absurd (not_fine a e)
first_err ((true, x) ∷ cs) a o e = ap (λ (r : Refusal). Err r) (same_refusal a x e)
first_err ((false, x) ∷ cs) a o e = first_err cs a o e

first_ok : (cs : List (Bool × Refusal)) (o : Answer) → ◌≡◌ {A = Check} (Ok tt) (first (within Err cs) (Ok tt)) → first (within Err cs) o ≡ o
first_ok [] o e = refl
first_ok ((true, x) ∷ cs) o e = absurd (not_fine x (sym e))
first_ok ((false, x) ∷ cs) o e = first_ok cs o e

pub refused : (rec : Stream) (out : List ℕ) (token : ℕ) (value : List ℕ) (r : Check) (a : Refusal) → Checks rec (length out) token value r → r ≡ Err a → Appends rec out token value (Err a) rec out
unfolding answer_to record_after output_after
refused rec out token value r a c e =
    let k = c.encoding in
    let cs = before k rec (length out) token value in
    record {
      encoding = k;
      encoded = c.encoded;
      answers = first_err cs a (room rec (length out) (length (news rec token value))) (sym e ∙ c.is);
      leave = refl;
      writes = refl;
    }

pub accepted : (rec : Stream) (out : List ℕ) (token : ℕ) (value : List ℕ) (r : Check) (a : Answer) (rec' : Stream) (out' : List ℕ)
    → Checks rec (length out) token value r → r ≡ Ok tt → Writes rec out token value a rec' out' → Appends rec out token value a rec' out'
unfolding answer_to
accepted rec out token value r a rec' out' c e w =
    let k = c.encoding in
    let f = first_ok (before k rec (length out) token value) (room rec (length out) (length (news rec token value))) (sym e ∙ c.is) in
    record { encoding = k; encoded = c.encoded; answers = w.answers ∙ sym f; leave = w.leave; writes = w.writes }

-- none of them fits
pub passed : (rec : Stream) (size token : ℕ) (value : List ℕ) (r : Check) → Checks rec size token value r → r ≡ Ok tt
    → (unsound rec size ≡ false) × (not (present token) && ltb 0 (length value) ≡ false)
unfolding before
passed rec size token value r c e =
    let p = all_passed {B = Check} Err (Ok tt) same_refusal not_fine (before c.encoding rec size token value) (sym e ∙ c.is) in
    (p.0, p.1.1.0)

pub room_known : (rec : Stream) (size token : ℕ) (value : List ℕ) (r : Check) → Checks rec size token value r → r ≡ Ok tt → rec.count ≤ size
room_known rec size token value r c e = (is_sound rec size (passed rec size token value r c e).0).within

-- ---- the first fitting one of all refusals
pub early_refused : (rec : Stream) (size token : ℕ) (value : List ℕ) (r : Check) (a : Refusal) → Checks rec size token value r → r ≡ Err a → Verdict rec size token value (Err a)
early_refused rec size token value r a c e = record { early = Err a; checks = rw e at c; is = refl }

pub then_room : (rec : Stream) (size token : ℕ) (value : List ℕ) (r s : Check) → Checks rec size token value r → r ≡ Ok tt
    → s ≡ room_test rec size (length (news rec token value)) → Verdict rec size token value s
then_room rec size token value r s c e is = record { early = Ok tt; checks = rw e at c; is = is }

-- whether there is room, where none of the others fits
tested : (rec : Stream) (out : List ℕ) (token : ℕ) (value : List ℕ) (r : Check) (a : Refusal) → Checks rec (length out) token value (Ok tt)
    → r ≡ room_test rec (length out) (length (news rec token value)) → r ≡ Err a → Appends rec out token value (Err a) rec out
tested rec out token value r a c is e = by (ltb (length out - rec.count) n) refl is
  where
    n : ℕ
    n = length (news rec token value)

    by : (b : Bool) → ltb (length out - rec.count) n ≡ b → r ≡ first ((b, Err (NoRoom n)) ∷ []) (Ok tt) → Appends rec out token value (Err a) rec out
    by true t q =
        rw (same_refusal a (NoRoom n) (sym e ∙ q))
        (accepted rec out token value (Ok tt) (Err (NoRoom n)) rec out c refl (no_room rec out token value n refl (ltb-true (length out - rec.count) n t)))
    by false t q = absurd (not_fine a (sym e ∙ q))

pub all_refused : (rec : Stream) (out : List ℕ) (token : ℕ) (value : List ℕ) (r : Check) (a : Refusal) → Verdict rec (length out) token value r → r ≡ Err a
    → Appends rec out token value (Err a) rec out
all_refused rec out token value r a v e = by v.early v.checks v.is
  where
    by : (d : Check) → Checks rec (length out) token value d → r ≡ and_room d (room_test rec (length out) (length (news rec token value))) → Appends rec out token value (Err a) rec out
    by (Err b) c is = refused rec out token value (Err b) a c (sym is ∙ e)
    by (Ok u) c is = tested rec out token value r a c is e

-- none fits
pub none_fits : (rec : Stream) (size token : ℕ) (value : List ℕ) (r : Check) → Verdict rec size token value r → r ≡ Ok tt
    → Checks rec size token value (Ok tt) × (Ok tt ≡ room_test rec size (length (news rec token value)))
none_fits rec size token value r v e = by v.early v.checks v.is
  where
    by : (d : Check) → Checks rec size token value d → r ≡ and_room d (room_test rec size (length (news rec token value)))
        → Checks rec size token value (Ok tt) × (Ok tt ≡ room_test rec size (length (news rec token value)))
    by (Err b) c is = absurd (not_fine b (sym is ∙ e))
    by (Ok u) c is = (c, sym e ∙ is)

pub all_accepted : (rec : Stream) (out : List ℕ) (token : ℕ) (value : List ℕ) (r : Check) (a : Answer) (rec' : Stream) (out' : List ℕ)
    → Verdict rec (length out) token value r → r ≡ Ok tt → Writes rec out token value a rec' out' → Appends rec out token value a rec' out'
all_accepted rec out token value r a rec' out' v e w = accepted rec out token value (Ok tt) a rec' out' (none_fits rec (length out) token value r v e).0 refl w

-- no two outcomes satisfy the contract
pub unique : (rec : Stream) (out : List ℕ) (token : ℕ) (value : List ℕ) (a b : Answer) (r s : Stream) (o p : List ℕ)
    → Appends rec out token value a r o → Appends rec out token value b s p → (a ≡ b) × ((r ≡ s) × (o ≡ p))
unique rec out token value a b r s o p x y =
    let e : x.encoding ≡ y.encoding = encoded_unique value x.encoding y.encoding x.encoded y.encoded in
    let q : a ≡ b = x.answers ∙ ap (λ (k : Encoding). answer_to k rec out token value) e ∙ sym y.answers in (
      q,
      (
        x.leave ∙ ap (λ (t : Answer). record_after t rec token value) q ∙ sym y.leave,
        x.writes ∙ ap (λ (t : Answer). output_after t rec out token value) q ∙ sym y.writes,
      ),
    )

-- a number of 01's table is small
pub number_small : (a : Answer) → number a < 16
number_small (Ok n) = omega arith
number_small (Err Malformed) = omega arith
number_small (Err Unknown) = omega arith
number_small (Err TooLong) = omega arith
number_small (Err (Broken b)) = utf8laws.number_small (Err b)
number_small (Err (NoRoom n)) = omega arith

-- a place is far below 2^32, so that number and place can be told apart in one number
abbrev Small : Answer → Type 0
Small a = place a < 2 ^ 32

either : (t : Bool) (x y : Answer) → Small x → Small y → Small (cond t x y)
either true x y p q = p
either false x y p q = q

answer_small : (e : Encoding) (rec : Stream) (out : List ℕ) (token : ℕ) (value : List ℕ) → Encoded value e → Small (answer_to e rec out token value)
unfolding answer_to before room news token_of
answer_small e rec out token value h =
    either (unsound rec (length out)) _ _ (omega arith)
    (either (not (known (number_of token))) _ _ (omega arith)
    (either (not (present token) && ltb 0 (length value)) _ _ (omega arith) (by (ltb longest (length value)) refl)))
  where
    n : ℕ
    n = length (adds rec.spaced (token_of token value))

    by : (t : Bool) → ltb longest (length value) ≡ t
        → Small (cond t (Err TooLong) (cond (broken e) (Err (Broken (fault e))) (cond (ltb (length out - rec.count) n) (Err (NoRoom n)) (Ok n))))
    by true q = omega arith
    by false q =
        let l : length value ≤ longest = ltb-false longest (length value) q in
        let s : n < 2 ^ 32 = omega (arith, adds_length rec.spaced (token_of token value), given_size (present token) value) in
        either (broken e) _ _ (omega (arith, fault_place e, place_within value e h)) (either (ltb (length out - rec.count) n) _ _ s s)

pub place_small : (rec : Stream) (out : List ℕ) (token : ℕ) (value : List ℕ) (a : Answer) (rec' : Stream) (out' : List ℕ) → Appends rec out token value a rec' out' → place a < 2 ^ 32
place_small rec out token value a rec' out' x = rw x.answers (answer_small x.encoding rec out token value x.encoded)
