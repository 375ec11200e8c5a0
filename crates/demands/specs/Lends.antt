-- The tokens of S1 to S12 can be lent to append, and no refusal but 8 fits any of them: one test that is computed over all of them.
use Rattle.std.specs.Prelude.{ℕ, ◌+◌, ◌%◌, ◌<◌, ◌≡◌, Bool, true, ◌&&◌, ltb, leb, length}
use Rattle.std.proofs.Common.{arith}
use mathlib.Core.List.{List, [], ◌∷◌, map}
use borrow.Author.Tests.{ltb-true, leb-true, le-leb, lt-leb}
use Rattle.laws.specs.Tests.{and_left, and_right}
use Rattle.laws.specs.Among.{all}
use Rattle.utf8.specs.Rfc3629.{Text, none as no_text, more, one}
use Rattle.spelling.specs.Spelling.{known}
use Rattle.stream.specs.Stream.{Token, Value, none, some}
use Rattle.append.specs.Append.{number_of, present, token_of, longest}
use Rattle.append.specs.Lists.{Lent, Fine}

-- a token as it is lent: bit 15 says that a value is present
abbrev pub lent_as : ℕ → Value → Lent
lent_as k none = (k, [])
lent_as k (some v) = (k + 0x8000, v)

abbrev pub lent : List Token → List Lent
lent ts = map (λ t. lent_as t.kind t.value) ts

-- characters of one byte each, controls among them
unfoldable pub low : List ℕ → Bool
low v = all (λ b. ltb b 0x80) v

low_text : (v : List ℕ) → low v ≡ true → Text v
unfolding low
low_text [] t = no_text
low_text (x ∷ v) t =
    let below = ltb-true x 0x80 (and_left (ltb x 0x80) (low v) t) in
    more (one {a = x} (record { low = omega arith; high = omega arith })) (low_text v (and_right (ltb x 0x80) (low v) t))

unfoldable pub lendable : ℕ → List ℕ → Bool
lendable k v = (ltb k 0x8000 && known k) && (leb (length v) longest && low v)

-- it is lent as itself
module _ (k : ℕ) (v : List ℕ) (h : lendable k v ≡ true) where
  small : k < 0x8000
  unfolding lendable
  small = ltb-true k 0x8000 (and_left (ltb k 0x8000) (known k) (and_left (ltb k 0x8000 && known k) _ h))

  spelled : known k ≡ true
  unfolding lendable
  spelled = and_right (ltb k 0x8000) (known k) (and_left (ltb k 0x8000 && known k) _ h)

  value_right : leb (length v) longest && low v ≡ true
  unfolding lendable
  value_right = and_right (ltb k 0x8000 && known k) _ h

  fine : (w : ℕ) → number_of w ≡ k → (0 < length v → present w ≡ true) → Fine (w, v)
  fine w n p =
      record {
        spelled = rw n spelled;
        lent = p;
        short = leb-true (length v) longest (and_left (leb (length v) longest) (low v) value_right);
        valid = low_text v (and_right (leb (length v) longest) (low v) value_right);
      }

pub one_back : (k : ℕ) (v : Value) → lendable k (lent_as k v).1 ≡ true
    → (token_of (lent_as k v).0 (lent_as k v).1 ≡ record { kind = k; value = v }) × Fine (lent_as k v)
unfolding token_of number_of present
one_back k none h =
    let s = small k [] h in
    let n : k % 0x8000 ≡ k = omega arith in
    (rw (n, lt-leb 0x8000 k s), fine k [] h k n (λ l. absurd (omega arith)))
one_back k (some v) h =
    let s = small k v h in
    let w = (lent_as k (some v)).0 in
    let n : w % 0x8000 ≡ k = omega arith in
    let p = le-leb 0x8000 w (omega arith) in
    (rw (n, p), fine k v h w n (λ l. p))
