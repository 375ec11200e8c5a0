-- The grammar in numbers says what the grammar says: the bit of each kind in each place, the row of a LIST's elements, and the rule and the row of each kind, which are computed.
use Rattle.std.specs.Prelude.{ℕ, zero, suc, ◌+◌, ◌*◌, ◌/◌, ◌%◌, ◌^◌, ◌≤◌, ◌<◌, ◌≡◌, refl, List, [], ◌∷◌, Bool, true, false, cond, ◌&&◌, eqb, ltb, length, replicate}
use native.Mathlib.Omega.{arith}
use Rattle.std.proofs.Common.{not-suc-le-zero, div-one, ◌∙◌, sym, ap, eqb-true, eq-eqb, ne_eqb, lt-ltb, ltb-true, ltb-false}
use Rattle.std.proofs.Math.Nat.{pow-zero, pow-succ', div-div-eq-div-mul}
use Rattle.std.proofs.lemmas.Bool.{false≢true}
use Rattle.std.proofs.Math.ListN.{get_or-eq_default}
use Rattle.laws.specs.Among.{among, all}
use Rattle.laws.specs.Below.{below, at}
use Rattle.laws.specs.Bytes.{same, equal}
use Rattle.laws.specs.Tests.{and_left, and_right, and_both}
use Rattle.grammar.specs.Kind.{LIST}
use Rattle.grammar.specs.Shape.{Class, one, list, one_or, small, Rule, check_source, without_rowid, ruled, Shape, nothing}
use Rattle.grammar.specs.Grammar.{table, lookup, shape}
use Rattle.grammar.specs.Slots.{slots_of, flags_below, allowed, elements}
use Rattle.grammar.specs.Classes.{classes, classes_held, class_at}
use Rattle.grammar.specs.Packed.{kinds_held, bits, stands_of, same_rule, same_class, numbered, element_of, rule_of, places_of, each, row_of, turn, along, all_held}

-- ---- two places are the same
same_rule_lem : (u v : Rule) → same_rule u v ≡ true → u ≡ v
unfolding same_rule
same_rule_lem check_source check_source h = refl
same_rule_lem check_source without_rowid h = absurd (false≢true h)
same_rule_lem without_rowid check_source h = absurd (false≢true h)
same_rule_lem without_rowid without_rowid h = refl

same_class_lem : (c d : Class) → same_class c d ≡ true → c ≡ d
unfolding same_class
same_class_lem (one xs) (one ys) h = ap one (equal xs ys h)
same_class_lem (one xs) (list d) h = absurd (false≢true h)
same_class_lem (one xs) (one_or ys d) h = absurd (false≢true h)
same_class_lem (one xs) small h = absurd (false≢true h)
same_class_lem (one xs) (ruled v) h = absurd (false≢true h)
same_class_lem (list c) (one ys) h = absurd (false≢true h)
same_class_lem (list c) (list d) h = ap list (same_class_lem c d h)
same_class_lem (list c) (one_or ys d) h = absurd (false≢true h)
same_class_lem (list c) small h = absurd (false≢true h)
same_class_lem (list c) (ruled v) h = absurd (false≢true h)
same_class_lem (one_or xs c) (one ys) h = absurd (false≢true h)
same_class_lem (one_or xs c) (list d) h = absurd (false≢true h)
same_class_lem (one_or xs c) (one_or ys d) h = rw (equal xs ys (and_left (same xs ys) (same_class c d) h), same_class_lem c d (and_right (same xs ys) (same_class c d) h))
same_class_lem (one_or xs c) small h = absurd (false≢true h)
same_class_lem (one_or xs c) (ruled v) h = absurd (false≢true h)
same_class_lem small (one ys) h = absurd (false≢true h)
same_class_lem small (list d) h = absurd (false≢true h)
same_class_lem small (one_or ys d) h = absurd (false≢true h)
same_class_lem small small h = refl
same_class_lem small (ruled v) h = absurd (false≢true h)
same_class_lem (ruled u) (one ys) h = absurd (false≢true h)
same_class_lem (ruled u) (list d) h = absurd (false≢true h)
same_class_lem (ruled u) (one_or ys d) h = absurd (false≢true h)
same_class_lem (ruled u) small h = absurd (false≢true h)
same_class_lem (ruled u) (ruled v) h = ap ruled (same_rule_lem u v h)

-- ---- no place takes a kind past the last
abbrev early : ℕ → Bool
early k = ltb k kinds_held

lateless : Class → Bool
lateless (one ks) = all early ks
lateless (list c) = true
lateless (one_or ks c) = all early ks
lateless small = true
lateless (ruled u) = true

lateless_all : below (λ n. lateless (class_at n)) classes_held ≡ true
unfolding lateless class_at classes
lateless_all = refl

not_among : (ks : List ℕ) (k : ℕ) → all early ks ≡ true → kinds_held ≤ k → among k ks ≡ false
not_among [] k h l = refl
not_among (x ∷ ks) k h l =
    let s : x < kinds_held = ltb-true x kinds_held (and_left (early x) (all early ks) h) in
    rw (ne_eqb k x (λ e. omega arith), not_among ks k (and_right (early x) (all early ks) h) l)

not_allowed : (c : Class) (k : ℕ) → lateless c ≡ true → kinds_held ≤ k → allowed c k ≡ false
unfolding lateless allowed
not_allowed (one ks) k h l = not_among ks k h l
not_allowed (list c) k h l = ne_eqb k 1 (λ e. omega arith)
not_allowed (one_or ks c) k h l = rw (not_among ks k h l, ne_eqb k 1 (λ e. omega arith))
not_allowed small k h l = ne_eqb k 5 (λ e. omega arith)
not_allowed (ruled u) k h l = rw (ne_eqb k 0 (λ e. omega arith), ne_eqb k 4 (λ e. omega arith))

pub allowed_held : (n k : ℕ) → n < classes_held → allowed (class_at n) k ≡ true → k < kinds_held
allowed_held n k h t = by (ltb k kinds_held) refl
  where
    by : (b : Bool) → ltb k kinds_held ≡ b → k < kinds_held
    by true e = ltb-true k kinds_held e
    by false e =
        let z : false ≡ true = sym (not_allowed (class_at n) k (at (λ m. lateless (class_at m)) classes_held lateless_all n h) (ltb-false k kinds_held e)) ∙ t in
        absurd (false≢true z)

-- ---- the bit of a kind
bit_small : (b : Bool) → cond b 1 0 < 2
bit_small true = omega arith
bit_small false = omega arith

bit_is : (b : Bool) → eqb (cond b 1 0) 1 ≡ b
bit_is true = refl
bit_is false = refl

module _ (f : ℕ → Bool) where
  later : (k n : ℕ) → bits f k (suc n) / 2 ≡ bits f (k + 1) n
  later k n = let l = bit_small (f k) in omega arith

  nth_bit : (k n s j : ℕ) → s < n → k + s ≡ j → bits f k n / 2 ^ s % 2 ≡ cond (f j) 1 0
  nth_bit k zero s j h e = absurd (not-suc-le-zero h)
  nth_bit k (suc n) zero j h e =
      let z : k ≡ j = omega arith in
      rw (pow-zero 2, div-one (bits f k (suc n)), ← z) (let l = bit_small (f k) in omega arith)
  nth_bit k (suc n) (suc s) j h e =
      rw (pow-succ' 2 s, ← div-div-eq-div-mul (bits f k (suc n)) 2 (2 ^ s), later k n)
      (nth_bit (k + 1) n s j (omega arith) (omega arith))

pub stands_bit : (n k m : ℕ) → m ≡ stands_of k → n < 64 → eqb (m / 2 ^ n % 2) 1 ≡ allowed (class_at n) k
unfolding stands_of
stands_bit n k m e h =
    rw (e, nth_bit (λ j. allowed (class_at j) k) 0 64 n n h (omega arith)) (bit_is (allowed (class_at n) k))

-- ---- past the last place nothing may stand, and no element has a place; past the last kind there are no flags and no slots
past_places : (n : ℕ) → classes_held ≤ n → class_at n ≡ one []
unfolding class_at classes
past_places n h = get_or-eq_default classes (one []) h

no_place : (n k : ℕ) → classes_held ≤ n → allowed (class_at n) k ≡ false
unfolding allowed
no_place n k h = rw (past_places n h)

no_bits : (f : ℕ → Bool) (k n : ℕ) → ((j : ℕ) → f j ≡ false) → bits f k n ≡ 0
no_bits f k zero h = refl
no_bits f k (suc n) h = rw (h k, no_bits f (k + 1) n h)

pub no_kind : (k : ℕ) → kinds_held ≤ k → 0 ≡ stands_of k
unfolding stands_of
no_kind k l = sym (no_bits (λ n. allowed (class_at n) k) 0 64 (λ n. by n (ltb n classes_held) refl))
  where
    by : (n : ℕ) (b : Bool) → ltb n classes_held ≡ b → allowed (class_at n) k ≡ false
    by n true e = not_allowed (class_at n) k (at (λ m. lateless (class_at m)) classes_held lateless_all n (ltb-true n classes_held e)) l
    by n false e = no_place n k (ltb-false n classes_held e)

nowhere : numbered (one []) ≡ 0
unfolding numbered same_class same_rule classes
nowhere = refl

pub no_element : (n : ℕ) → classes_held ≤ n → 0 ≡ element_of n
unfolding element_of elements
no_element n h = sym (rw (past_places n h) nowhere)

early_keys : List (ℕ × Shape) → Bool
early_keys [] = true
early_keys (r ∷ rs) = early r.0 && early_keys rs

no_entry : (rs : List (ℕ × Shape)) (k : ℕ) → early_keys rs ≡ true → kinds_held ≤ k → lookup rs k ≡ nothing
unfolding early_keys
no_entry [] k h l = refl
no_entry (r ∷ rs) k h l =
    let s : r.0 < kinds_held = ltb-true r.0 kinds_held (and_left (early r.0) (early_keys rs) h) in
    rw (ne_eqb k r.0 (λ e. omega arith), no_entry rs k (and_right (early r.0) (early_keys rs) h) l)

no_shape : (k : ℕ) → kinds_held ≤ k → shape k ≡ nothing
unfolding shape early_keys
no_shape k l = no_entry table k refl l

pub no_rule : (k : ℕ) → kinds_held ≤ k → 1 ≡ rule_of k
unfolding rule_of flags_below slots_of
no_rule k l = rw (no_shape k l)

pub no_places : (k : ℕ) → kinds_held ≤ k → 0 ≡ places_of k
unfolding places_of slots_of
no_places k l = rw (no_shape k l)

-- ---- the elements of each place, and the row of a LIST
abbrev element_right : ℕ → Bool
element_right n = ltb (element_of n) classes_held && same_class (class_at (element_of n)) (elements (class_at n))

elements_right : below element_right classes_held ≡ true
unfolding element_of numbered same_class same_rule class_at classes elements
elements_right = refl

-- a row that is turned has no more bytes
pub turn_small : (p : ℕ) → p < 2 ^ 64 → p / 256 + p % 256 * 2 ^ 56 < 2 ^ 64
turn_small p h = bytes_small (p / 256) (p % 256) (omega arith) (omega arith)
  where
    bytes_small : (a b : ℕ) → a < 2 ^ 56 → b < 256 → a + b * 2 ^ 56 < 2 ^ 64
    bytes_small a b h l = omega arith

-- a row of one place over and over is the same when it is turned
abbrev over : ℕ → Bool
over e = eqb (e * each % 256) e && eqb (turn (e * each)) (e * each)

all_over : below over classes_held ≡ true
unfolding turn
all_over = refl

module _ (e : ℕ) (h : e < classes_held) where
  same_first : e * each % 256 ≡ e
  same_first = eqb-true (e * each % 256) e (and_left (eqb (e * each % 256) e) _ (at over classes_held all_over e h))

  same_turned : turn (e * each) ≡ e * each
  same_turned = eqb-true (turn (e * each)) (e * each) (and_right (eqb (e * each % 256) e) _ (at over classes_held all_over e h))

  pub same_along : (m : ℕ) → along (e * each) m ≡ replicate m (class_at e)
  same_along zero = refl
  same_along (suc m) = rw (same_first, same_turned, same_along m)

  pub same_held : (m : ℕ) → all_held (e * each) m ≡ true
  same_held zero = refl
  same_held (suc m) = rw (same_first, same_turned) (and_both (ltb e classes_held) _ (lt-ltb e classes_held h) (same_held m))

module _ (n : ℕ) (h : n < classes_held) where
  element_right_lem : element_right n ≡ true
  element_right_lem = at element_right classes_held elements_right n h

  pub element_held : element_of n < classes_held
  element_held = ltb-true (element_of n) classes_held (and_left (ltb (element_of n) classes_held) _ element_right_lem)

  element_is : class_at (element_of n) ≡ elements (class_at n)
  element_is = same_class_lem (class_at (element_of n)) (elements (class_at n)) (and_right (ltb (element_of n) classes_held) _ element_right_lem)

  module _ (k : ℕ) (is-list : k ≡ LIST) (m : ℕ) where
    pub list_along : along (row_of n k) m ≡ replicate m (elements (class_at n))
    unfolding row_of
    list_along = rw (eq-eqb k LIST is-list, ← element_is) (same_along (element_of n) element_held m)

    pub list_held : all_held (row_of n k) m ≡ true
    unfolding row_of
    list_held = rw (eq-eqb k LIST is-list) (same_held (element_of n) element_held m)

-- ---- the rule and the slots of each kind
unfoldable pub same_all : List Class → List Class → Bool
same_all [] [] = true
same_all [] (d ∷ ds) = false
same_all (c ∷ cs) [] = false
same_all (c ∷ cs) (d ∷ ds) = same_class c d && same_all cs ds

pub same_all_lem : (cs ds : List Class) → same_all cs ds ≡ true → cs ≡ ds
unfolding same_all
same_all_lem [] [] h = refl
same_all_lem [] (d ∷ ds) h = absurd (false≢true h)
same_all_lem (c ∷ cs) [] h = absurd (false≢true h)
same_all_lem (c ∷ cs) (d ∷ ds) h =
    rw (same_class_lem c d (and_left (same_class c d) (same_all cs ds) h), same_all_lem cs ds (and_right (same_class c d) (same_all cs ds) h))

abbrev row_right : ℕ → List Class → Bool
row_right p cs = same_all (along p (length cs)) cs && all_held p (length cs)

abbrev kind_right : ℕ → Bool
kind_right k =
    (ltb 0 (flags_below (shape k)) && ltb (flags_below (shape k)) 256) && row_right (places_of k) (slots_of (shape k))

kinds_right : below kind_right kinds_held ≡ true
unfolding same_all places_of turn numbered same_class same_rule class_at classes slots_of flags_below shape
kinds_right = refl

module _ (k : ℕ) (h : k < kinds_held) where
  right : kind_right k ≡ true
  right = at kind_right kinds_held kinds_right k h

  flags_right : ltb 0 (flags_below (shape k)) && ltb (flags_below (shape k)) 256 ≡ true
  flags_right = and_left (ltb 0 (flags_below (shape k)) && ltb (flags_below (shape k)) 256) _ right

  pub no_flags_fit : ltb 0 (flags_below (shape k)) ≡ true
  no_flags_fit = and_left (ltb 0 (flags_below (shape k))) (ltb (flags_below (shape k)) 256) flags_right

  flags_few : flags_below (shape k) < 256
  flags_few = ltb-true (flags_below (shape k)) 256 (and_right (ltb 0 (flags_below (shape k))) (ltb (flags_below (shape k)) 256) flags_right)

  pub rule_flags : rule_of k % 256 ≡ flags_below (shape k)
  unfolding rule_of
  rule_flags = let l = flags_few in omega arith

  pub rule_slots : rule_of k / 256 ≡ length (slots_of (shape k))
  unfolding rule_of
  rule_slots = let l = flags_few in omega arith

  row_right_lem : row_right (places_of k) (slots_of (shape k)) ≡ true
  row_right_lem = and_right (ltb 0 (flags_below (shape k)) && ltb (flags_below (shape k)) 256) _ right

  module _ (no_list : k ≡ LIST → ⊥) (n : ℕ) where
    pub slots_along : along (row_of n k) (length (slots_of (shape k))) ≡ slots_of (shape k)
    unfolding row_of
    slots_along = rw (ne_eqb k LIST no_list) (same_all_lem _ (slots_of (shape k)) (and_left (same_all (along (places_of k) (length (slots_of (shape k)))) (slots_of (shape k))) _ row_right_lem))

    pub slots_held : all_held (row_of n k) (length (slots_of (shape k))) ≡ true
    unfolding row_of
    slots_held = rw (ne_eqb k LIST no_list) (and_right (same_all (along (places_of k) (length (slots_of (shape k)))) (slots_of (shape k))) _ row_right_lem)

-- ---- the row of a kind in a place
pub list_row : (n k e : ℕ) → k ≡ LIST → e ≡ element_of n → e * each ≡ row_of n k
unfolding row_of
list_row n k e h q = rw (eq-eqb k LIST h, q)

pub slots_row : (n k p : ℕ) → (k ≡ LIST → ⊥) → p ≡ places_of k → p ≡ row_of n k
unfolding row_of
slots_row n k p h q = rw (ne_eqb k LIST h) q
