-- Tokens appended one after another as the engine calls it: a list of calls that all answer below 2^32, which is number 0, is a list of appends to the record
-- that the bytes stand for. What a call leaves is read back by the next, since a count that is within an output fits eight bytes, and so do its line and column.
use Rattle.std.specs.Prelude.{Ok, ℕ, zero, suc, ◌+◌, ◌/◌, ◌^◌, ◌≤◌, ◌<◌, ◌≡◌, refl, List, [], ◌∷◌, ◌++◌, Bool, true, false, eqb, length, get_or}
use Rattle.std.proofs.Common.{arith, ◌∙◌, ap, sym}
use Rattle.std.proofs.Math.Nat.{pow-zero, pow-succ'}
use Rattle.laws.specs.Little.{little, from_little}
use Rattle.append.specs.declared.Stream.{Stream}
use Rattle.append.specs.Append.{Answer, Appends, news, number, code}
use Rattle.append.specs.Laws.{place_small}
use Rattle.append.specs.Lists.{Lent, tokens_of, text_from, AppendsAll, AllFine, Held, held_on, Appended, succeeds, output_length, zero_added}
use Rattle.append.proofs.Lists.{all_succeed, appended}
use Rattle.append.specs.Lists.{none as no-append, one as one-append}
use Rattle.wire.specs.Wire.{well_formed, unpacked, bit_of, packed, repacked, Done, Crosses}
use Rattle.wire.specs.Laws.{Fields, count_read, line_read, column_read, little_length, well}

-- calls one after another, all of which succeed: from the record's bytes and the output to the record's bytes and the output
pub data CrossesAll : List ℕ → List ℕ → List Lent → List ℕ → List ℕ → Type 0 where
  none : {r out : List ℕ} → CrossesAll r out [] r out
  one : {r m r' out o out' : List ℕ} {l : Lent} {ls : List Lent} {answer : ℕ}
      → Crosses r out l.0 l.1 answer m o → answer < 2 ^ 32 → CrossesAll m o ls r' out' → CrossesAll r out (l ∷ ls) r' out'

-- ---- a record in its bytes is read back
from_little_lem : (k n : ℕ) → n < 256 ^ k → from_little (little k n) ≡ n
from_little_lem zero n h = omega (arith, pow-zero 256)
from_little_lem (suc k) n h = omega (arith, from_little_lem k (n / 256) (omega (arith, pow-succ' 256 k)), h)

packed_fields : (s : Stream) → Fields (packed s) (bit_of s.spaced) (little 8 s.count) (little 8 s.line) (little 8 s.column)
unfolding packed
packed_fields s = record { is = refl; count = little_length 8 s.count; line = little_length 8 s.line; column = little_length 8 s.column }

bit_read : (b : Bool) → eqb (bit_of b) 1 ≡ b
bit_read true = refl
bit_read false = refl

first_read : (s : Stream) → get_or (packed s) 0 0 ≡ bit_of s.spaced
unfolding packed
first_read s = refl

-- a count that is within an output fits, and so do a line and a column within it
pub read_back : (s : Stream) → s.count < 2 ^ 64 → Held s → unpacked (packed s) ≡ s
unfolding unpacked
read_back s h k =
    let f = packed_fields s in
    rw (
      first_read s,
      bit_read s.spaced,
      count_read f,
      line_read f,
      column_read f,
      from_little_lem 8 s.count h,
      from_little_lem 8 s.line (omega (arith, k.line)),
      from_little_lem 8 s.column (omega (arith, k.column)),
    )

packed_well : (s : Stream) → well_formed (packed s) ≡ true
unfolding well_formed packed
packed_well s = by s.spaced
  where
    by : (b : Bool) → well_formed (bit_of b ∷ (little 8 s.count ++ (little 8 s.line ++ little 8 s.column))) ≡ true
    by true = refl
    by false = refl

-- ---- one call that succeeds is an append that does
record Crossed (r out : List ℕ) (l : Lent) (r' out' : List ℕ) : Type 0 where
  n : ℕ
  appends : Appends (unpacked r) out l.0 l.1 (Ok n) (unpacked r') out'
  stays : well_formed r' ≡ true

low_number : (a : Answer) → code a < 2 ^ 32 → number a ≡ 0
unfolding code
low_number a h = omega arith

crossed : {r out : List ℕ} {l : Lent} {answer : ℕ} {r' out' : List ℕ} → Crosses r out l.0 l.1 answer r' out' → answer < 2 ^ 32 → length out < 2 ^ 64 → Crossed r out l r' out'
unfolding code
crossed {r} {out} {l} {answer} {r'} {out'} x low fits = by (well_formed r) x.done
  where
    z : number x.verdict ≡ 0
    z = low_number x.verdict (omega (arith, x.answers))

    by : (b : Bool) → Done b (unpacked r) out l.0 l.1 x.verdict x.left out' → Crossed r out l r' out'
    by true d =
        let n = length (news (unpacked r) l.0 l.1) in
        let e : x.verdict ≡ Ok n = zero_added d z in
        let a : Appends (unpacked r) out l.0 l.1 (Ok n) x.left out' = rw e at d in
        let p : r' ≡ packed x.left = x.leaves ∙ ap (λ (v : Answer). repacked v x.left r) e in
        record { n = n; appends = rw (p, read_back x.left (omega (arith, (succeeds a).fits)) (held_on (succeeds a))) a; stays = rw p (packed_well x.left) }
    by false d = let y : number x.verdict ≡ 1 = ap number d.0 in absurd (omega arith)

pub all_append : {r out : List ℕ} {ls : List Lent} {r' out' : List ℕ} → CrossesAll r out ls r' out' → length out < 2 ^ 64 → AppendsAll (unpacked r) out ls (unpacked r') out'
all_append none fits = no-append
all_append (one x low xs) fits =
    let c = crossed x low fits in
    one-append c.appends (all_append xs (omega (arith, output_length (succeeds c.appends))))

-- so the bytes written, the bit, the count, the line and the column are the text's, its bit, its length and where it ends
pub all_crossed : {r out : List ℕ} {ls : List Lent} {r' out' : List ℕ} → CrossesAll r out ls r' out' → length out < 2 ^ 64 → Appended (unpacked r) out (tokens_of ls) (unpacked r') out'
all_crossed x fits = appended (all_append x fits)

-- and the record's bytes stay well formed
pub stays_well : {r out : List ℕ} {ls : List Lent} {r' out' : List ℕ} → CrossesAll r out ls r' out' → length out < 2 ^ 64 → well_formed r ≡ true → well_formed r' ≡ true
stays_well none fits w = w
stays_well (one x low xs) fits w =
    let c = crossed x low fits in
    stays_well xs (omega (arith, output_length (succeeds c.appends))) c.stays

-- ---- and a list of appends is a list of calls: where no refusal fits and there is room, all calls succeed
calls : {rec : Stream} {out : List ℕ} {ls : List Lent} {rec' : Stream} {out' : List ℕ} → AppendsAll rec out ls rec' out' → (r : List ℕ) → well_formed r ≡ true → rec ≡ unpacked r
    → length out < 2 ^ 64 → (r' : List ℕ) × CrossesAll r out ls r' out'
unfolding code
calls no-append r w e fits = (r, none)
calls {rec} {out} (one-append {mid = mid} {o = o} {l = l} {n = n} x xs) r w e fits =
    let rest = calls xs (packed mid) (packed_well mid) (sym (read_back mid (omega (arith, (succeeds x).fits)) (held_on (succeeds x)))) (omega (arith, output_length (succeeds x))) in
    let c : Crosses r out l.0 l.1 (code (Ok n)) (packed mid) o = well r out l.0 l.1 true rec mid (Ok n) (code (Ok n)) (packed mid) o (sym w) refl e x refl refl in
    (rest.0, one c (omega (arith, place_small rec out l.0 l.1 (Ok n) mid o x)) rest.1)

pub all_cross : (r out : List ℕ) {ls : List Lent} → well_formed r ≡ true → Held (unpacked r) → AllFine ls → (unpacked r).count + length (text_from (unpacked r) ls) ≤ length out → length out < 2 ^ 64
    → (r' : List ℕ) × (out' : List ℕ) × CrossesAll r out ls r' out'
all_cross r out w h f room fits =
    let a = all_succeed (unpacked r) out h f room in
    let c = calls a.2 r w refl fits in
    (c.0, a.1, c.1)
