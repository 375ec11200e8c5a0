-- Laws of append across the boundary.
use Rattle.std.specs.Prelude.{ℕ, zero, suc, ◌+◌, ◌-◌, ◌*◌, ◌/◌, ◌%◌, ◌≤◌, ◌<◌, ◌≡◌, refl, List, [], ◌∷◌, ◌++◌, Bool, Option, Some, Ok, Err, true, false, not, ◌&&◌, leb, eqb, length, get_or, set, take, drop}
use Rattle.std.proofs.Common.{arith, ◌∙◌, ap, ap₂, sym, append-nil, append_assoc, eqb-true, eq-eqb, ne_eqb, leb-true, length-append, length-drop, take-append-drop, drop_of_length-le, take_all, take_at, drop_at, drop-drop, length-take-le, get_or-take, get_or-drop}
use Rattle.std.proofs.lemmas.Bool.{eqb-false, not-true, not-false}
use Rattle.laws.specs.Little.{little, from_little}
use borrow.Rule.Slice.PartMut.{mid_of, put_mid}
use Rattle.laws.specs.Sets.{sets_copied}
use Rattle.laws.specs.Rest.{rest}
use Rattle.laws.specs.Tests.{and_left, and_right}
use Rattle.append.specs.Laws as append
use Rattle.std.proofs.lemmas.List.Edits.{sets-eq}
use Rattle.append.specs.declared.Stream.{Stream}
use Rattle.append.specs.declared.Refusal.TheVariants.{Malformed}
use Rattle.append.specs.Append.{Answer, Appends, code}
use Rattle.stream.specs.declared.Sink.{Sink}
use Rattle.quick.specs.Quick.{quick, Comes, on_line}
use Rattle.quick.specs.Laws.{Laid_is}
use Rattle.append.specs.Lists.{Held}
use Rattle.wire.specs.Wire.{well_formed, held, unpacked, bit_of, packed, repacked, Done, Crosses}

abbrev byte_of : List ℕ → ℕ → ℕ
byte_of r i = get_or r i 0

-- two halves are a whole
halves : (s : List ℕ) → from_little (take 4 s) + 0x1_0000_0000 * from_little (take 4 (drop 4 s)) ≡ from_little (take 8 s)
halves [] = refl
halves (a ∷ []) = omega arith
halves (a ∷ b ∷ []) = omega arith
halves (a ∷ b ∷ c ∷ []) = omega arith
halves (a ∷ b ∷ c ∷ d ∷ []) = omega arith
halves (a ∷ b ∷ c ∷ d ∷ e ∷ []) = omega arith
halves (a ∷ b ∷ c ∷ d ∷ e ∷ f ∷ []) = omega arith
halves (a ∷ b ∷ c ∷ d ∷ e ∷ f ∷ g ∷ []) = omega arith
halves (a ∷ b ∷ c ∷ d ∷ e ∷ f ∷ g ∷ h ∷ s) = omega arith

pub is_whole : (s : List ℕ) (low high : ℕ) → low ≡ from_little (take 4 s) → high ≡ from_little (take 4 (take (length s - 4) (drop 4 s)))
    → low + 0x1_0000_0000 * high ≡ from_little (take 8 s)
is_whole s low high l e = rw (l, e, rest s 4) (halves s)

-- ---- a record's bytes by fields: the first, and eight each
pub record Fields (r : List ℕ) (x : ℕ) (a b c : List ℕ) : Type 0 where
  pub is : r ≡ x ∷ (a ++ (b ++ c))
  pub count : length a ≡ 8
  pub line : length b ≡ 8
  pub column : length c ≡ 8

pub fields : (r : List ℕ) → length r ≡ 25 → Fields r (get_or r 0 0) (take 8 (drop 1 r)) (take 8 (drop 9 r)) (take 8 (drop 17 r))
fields [] n = absurd (omega arith)
fields (x ∷ s) n =
    let l : length s ≡ 24 = omega arith in
    let d8 = length-drop 8 s in
    let d16 = length-drop 16 s in
    record {
      is = ap (λ (t : List ℕ). x ∷ t) (sym (rw (take_all 8 (drop 16 s) (omega arith), ← drop-drop 8 8 s, take-append-drop 8 (drop 8 s), take-append-drop 8 s)));
      count = length-take-le 8 s (omega arith);
      line = length-take-le 8 (drop 8 s) (omega arith);
      column = length-take-le 8 (drop 16 s) (omega arith);
    }

module _ {r : List ℕ} {x : ℕ} {a b c : List ℕ} (f : Fields r x a b c) where
  pub fields_length : length r ≡ 25
  fields_length = omega (arith, ap length f.is, length-append a (b ++ c), length-append b c, f.count, f.line, f.column)

  -- each read
  pub count_read : take 8 (drop 1 r) ≡ a
  count_read = rw f.is (take_at a (b ++ c) 8 f.count)

  behind_count : drop 9 r ≡ b ++ c
  behind_count = rw f.is (drop_at a (b ++ c) 8 f.count)

  pub line_read : take 8 (drop 9 r) ≡ b
  line_read = rw behind_count (take_at b c 8 f.line)

  behind_line : drop 17 r ≡ c
  behind_line = sym (drop-drop 8 9 r) ∙ rw behind_count (drop_at b c 8 f.line)

  pub column_read : take 8 (drop 17 r) ≡ c
  column_read = rw behind_line (take_all 8 c (omega (arith, f.column)))

  -- what stands before each
  to_line : take 9 r ≡ x ∷ a
  to_line = rw f.is (ap (λ (t : List ℕ). x ∷ t) (take_at a (b ++ c) 8 f.count))

  to_column : take 17 r ≡ x ∷ (a ++ b)
  to_column = rw (f.is, ← append_assoc a b c) (ap (λ (t : List ℕ). x ∷ t) (take_at (a ++ b) c 16 (omega (arith, length-append a b, f.count, f.line))))

  -- and each written over
  pub first_put : (y : ℕ) → Fields (set r 0 y) y a b c
  first_put y = record { is = rw f.is; count = f.count; line = f.line; column = f.column }

  module _ (n : List ℕ) (l : length n ≡ 8) where
    pub count_put : Fields (take 1 r ++ (n ++ drop 8 (drop 1 r))) x n b c
    count_put = record { is = rw f.is (ap (λ (t : List ℕ). x ∷ (n ++ t)) (drop_at a (b ++ c) 8 f.count)); count = l; line = f.line; column = f.column }

    pub line_put : Fields (take 9 r ++ (n ++ drop 8 (drop 9 r))) x a n c
    line_put = record { is = rw (to_line, behind_count, drop_at b c 8 f.line); count = f.count; line = l; column = f.column }

    pub column_put : Fields (take 17 r ++ (n ++ drop 8 (drop 17 r))) x a b n
    column_put =
        record {
          is = rw (to_column, behind_line, drop_of_length-le c {i = 8} (omega (arith, f.column)), append-nil) (ap (λ (t : List ℕ). x ∷ t) (append_assoc a b n));
          count = f.count;
          line = f.line;
          column = l;
        }

-- ---- a record's bytes read
bit_of_lem : (x : ℕ) → x ≤ 1 → not (eqb x 0) ≡ eqb x 1
bit_of_lem x h = by (eqb x 0) refl
  where
    by : (t : Bool) → eqb x 0 ≡ t → not t ≡ eqb x 1
    by true e = let z = eqb-true x 0 e in sym (ne_eqb x 1 (λ q. omega arith))
    by false e = let z = eqb-false x 0 e in sym (eq-eqb x 1 (omega arith))

pub well_first : (r : List ℕ) → well_formed r ≡ true → byte_of r 0 ≤ 1
unfolding well_formed
well_first r w = leb-true (byte_of r 0) 1 (and_right (eqb (length r) 25) (leb (byte_of r 0) 1) w)

pub unpacks : (r : List ℕ) (count line column : ℕ) → well_formed r ≡ true → count ≡ from_little (take 8 (drop 1 r))
    → line ≡ from_little (take 8 (drop 9 r)) → column ≡ from_little (take 8 (drop 17 r))
    → ◌≡◌ {A = Stream} (record { spaced = not (eqb (byte_of r 0) 0); count = count; line = line; column = column }) (unpacked r)
unfolding unpacked
unpacks r count line column w c l k = rw (c, l, k, bit_of_lem (byte_of r 0) (well_first r w))

-- ---- and written
pub little_length : (k n : ℕ) → length (little k n) ≡ k
little_length zero n = refl
little_length (suc k) n = ap suc (little_length k (n / 256))

-- bytes are read and written back
little_back : (s : List ℕ) → ((i : ℕ) → i < length s → get_or s i 0 < 256) → little (length s) (from_little s) ≡ s
little_back [] f = refl
little_back (x ∷ s) f =
    let low = f 0 (omega arith) in
    let q : (x + 256 * from_little s) / 256 ≡ from_little s = omega arith in
    let m : (x + 256 * from_little s) % 256 ≡ x = omega arith in
    rw (q, m, little_back s (λ i h. f (suc i) (omega arith)))

pub packs : (r : List ℕ) (s : Stream) → Fields r (bit_of s.spaced) (little 8 s.count) (little 8 s.line) (little 8 s.column) → r ≡ packed s
unfolding packed
packs r s f = f.is

-- one after another: the bit and the count, then the line, then the column
module _ (r : List ℕ) (l : length r ≡ 25) (b n : ℕ) (p : List ℕ) (e : p ≡ take 1 (set r 0 b) ++ (little 8 n ++ drop 8 (drop 1 (set r 0 b)))) where
  pub first_two : Fields p b (little 8 n) (take 8 (drop 9 r)) (take 8 (drop 17 r))
  first_two = rw e (count_put (first_put (fields r l) b) (little 8 n) (little_length 8 n))

pub set_length : (r : List ℕ) (b : ℕ) → length r ≡ 25 → length (set r 0 b) ≡ 25
set_length r b l = fields_length (first_put (fields r l) b)

module _ {p : List ℕ} {x : ℕ} {a b c : List ℕ} (f : Fields p x a b c) (n : ℕ) (q : List ℕ) where
  pub then_line : q ≡ take 9 p ++ (little 8 n ++ drop 8 (drop 9 p)) → Fields q x a (little 8 n) c
  then_line e = rw e (line_put f (little 8 n) (little_length 8 n))

  pub then_column : q ≡ take 17 p ++ (little 8 n ++ drop 8 (drop 17 p)) → Fields q x a b (little 8 n)
  then_column e = rw e (column_put f (little 8 n) (little_length 8 n))

-- eight bytes copied over the first of a part
pub number_put : (r v ys : List ℕ) (at : ℕ) → at + 8 ≤ length r → length v ≡ 8 → ys ≡ take (length v) v ++ drop (length v) (mid_of at (length r - at) r)
    → put_mid at (length r - at) r ys ≡ take at r ++ (v ++ drop 8 (drop at r))
number_put r v ys at h l e =
    sets_copied r v ys at (omega arith) e ∙ sets-eq v r at (omega arith) ∙ rw (l, drop-drop 8 at r) (append_assoc (take at r) v (drop (at + 8) r))

-- the column is still there where only the bit and the count were written
pub column_still : (r p : List ℕ) {b : ℕ} {a l : List ℕ} (n : ℕ) → Fields p b a l (take 8 (drop 17 r)) → n ≡ from_little (take 8 (drop 17 p)) → n ≡ (unpacked r).column
unfolding unpacked
column_still r p n f e = e ∙ ap from_little (column_read f)

-- where the line's bytes stay
pub packs_on_line : (r r' : List ℕ) (s : Sink) (n : ℕ) → length r ≡ 25 → ((i : ℕ) → get_or r i 0 < 256) → n ≡ (unpacked r).column + (s.at - (unpacked r).count)
    → Fields r' (bit_of s.spaced) (little 8 s.at) (take 8 (drop 9 r)) (little 8 n) → r' ≡ packed (on_line (unpacked r) s)
unfolding packed unpacked
packs_on_line r r' s n l bytes e f =
    let old = (fields r l).line in
    let stays = take 8 (drop 9 r) in
    let part : (i : ℕ) → i < length stays → get_or stays i 0 < 256 = λ i h. rw (get_or-take 8 (drop 9 r) i 0 (omega (arith, h, old)), get_or-drop 9 r i 0) (bytes (9 + i)) in
    let back : little 8 (from_little stays) ≡ stays = rw old at (little_back stays part) in
    f.is ∙ ap₂ (λ (b : List ℕ) (m : ℕ). bit_of s.spaced ∷ (little 8 s.at ++ (b ++ little 8 m))) (sym back) e

-- the ways through the call
pub well_length : (r : List ℕ) (b : Bool) → b ≡ well_formed r → not b ≡ false → length r ≡ 25
unfolding well_formed
well_length r b e h = eqb-true (length r) 25 (and_left (eqb (length r) 25) (leb (byte_of r 0) 1) (sym e ∙ not-false b h))

pub not_well : (r out : List ℕ) (token : ℕ) (value : List ℕ) (b : Bool) (answer : ℕ) → b ≡ well_formed r → not b ≡ true → answer ≡ code (Err Malformed) → Crosses r out token value answer r out
not_well r out token value b answer e h a =
    record { verdict = Err Malformed; left = unpacked r; done = rw (← e, not-true b h) (refl, (refl, refl)); answers = a; leaves = refl }

pub well : (r out : List ℕ) (token : ℕ) (value : List ℕ) (b : Bool) (s t : Stream) (a : Answer) (answer : ℕ) (r' out' : List ℕ) → b ≡ well_formed r → not b ≡ false → s ≡ unpacked r
    → Appends s out token value a t out' → answer ≡ code a → r' ≡ repacked a t r → Crosses r out token value answer r' out'
well r out token value b s t a answer r' out' e h u d c l =
    record { verdict = a; left = t; done = rw (← e, not-false b h, ← u) d; answers = c; leaves = l }

-- what is taken up is the value
pub taken_whole : (rec : Stream) (out : List ℕ) (token : ℕ) (v : List ℕ) (a : Answer) (rec' : Stream) (out' : List ℕ)
    → Appends rec out token (take (length v - 0) (drop 0 v)) a rec' out' → Appends rec out token v a rec' out'
taken_whole rec out token v a rec' out' x = rw (rest v 0) at x

-- a token that was laid at once
pub laid_crosses : (r out : List ℕ) (token : ℕ) (value : List ℕ) (rec : Stream) (s : Sink) (n : ℕ) (r' out' : List ℕ) → well_formed r ≡ true → rec ≡ unpacked r
    → Laid_is rec out token value s out' → n ≡ s.at - rec.count → r' ≡ packed (on_line (unpacked r) s) → Crosses r out token value n r' out'
unfolding code
laid_crosses r out token value rec s n r' out' w u a e p =
    well r out token value true rec (on_line rec s) (Ok (s.at - rec.count)) n r' out' (sym w) refl u a.appends (omega (arith, e)) (rw (← u) at p)

-- a record whose line and column are within the count
pub is_held : (rec : Stream) → held rec ≡ true → Held rec
unfolding held
is_held rec e =
    let line = leb rec.line rec.count in
    let column = leb rec.column rec.count in
    record { line = leb-true rec.line rec.count (and_left line column e); column = leb-true rec.column rec.count (and_right line column e) }

-- what is asked before the record's bytes are written again
pub may_be_laid : (r : List ℕ) (rec : Stream) (at : ℕ) → well_formed r ≡ true → rec ≡ unpacked r → Held rec → rec.count ≤ at
    → (well_formed r ≡ true) × ((rec.count ≡ (unpacked r).count) × (((unpacked r).column ≤ rec.count) × (rec.count ≤ at)))
may_be_laid r rec at w u h on = (w, (ap (λ (t : Stream). t.count) u, (rw (← u) h.column, on)))

-- a long value is tried only over such a record
pub tried_not : (h m : Bool) → h ≡ false → h && m ≡ false
tried_not h m e = rw e

pub tried : (h m : Bool) (rec : Stream) (out bytes : List ℕ) (bit : Bool) (r : Option Sink) (out' : List ℕ) → h ≡ true → Comes m rec out bytes bit r out' → Comes (h && m) rec out bytes bit r out'
tried h m rec out bytes bit r out' e c = rw e c

pub tried_done : (h m : Bool) (rec : Stream) (out bytes : List ℕ) (bit : Bool) (r : Option Sink) (out' : List ℕ) (s : Sink) → Comes (h && m) rec out bytes bit r out' → r ≡ Some s
    → (h ≡ true) × Comes m rec out bytes bit r out'
unfolding quick
tried_done true m rec out bytes bit r out' s c e = (refl, c)
tried_done false m rec out bytes bit r out' s c e = let z : ◌≡◌ {A = ℕ} 0 1 = cc c.0 in absurd (omega arith)

pub taken_laid : (rec : Stream) (out : List ℕ) (token : ℕ) (v : List ℕ) (s : Sink) (out' : List ℕ)
    → Laid_is rec out token (take (length v - 0) (drop 0 v)) s out' → Laid_is rec out token v s out'
taken_laid rec out token v s out' x = rw (rest v 0) at x

pub taken_crosses : (r out : List ℕ) (token : ℕ) (v : List ℕ) (n : ℕ) (r' out' : List ℕ) → Crosses r out token (take (length v - 0) (drop 0 v)) n r' out' → Crosses r out token v n r' out'
taken_crosses r out token v n r' out' x = rw (rest v 0) at x

-- nothing was done to the output before
pub then_crosses : (r out o : List ℕ) (token : ℕ) (value : List ℕ) (n : ℕ) (r' out' : List ℕ) → o ≡ out → Crosses r o token value n r' out' → Crosses r out token value n r' out'
then_crosses r out o token value n r' out' e x = rw e at x

pub all_long : (r : List ℕ) → well_formed r ≡ true → length r ≡ 25
all_long r w = well_length r true (sym w) refl

-- no two outcomes satisfy the contract
done_unique : (w : Bool) (rec : Stream) (out : List ℕ) (token : ℕ) (value : List ℕ) (a b : Answer) (s t : Stream) (o p : List ℕ)
    → Done w rec out token value a s o → Done w rec out token value b t p → (a ≡ b) × ((s ≡ t) × (o ≡ p))
done_unique true rec out token value a b s t o p x y = append.unique rec out token value a b s t o p x y
done_unique false rec out token value a b s t o p x y = (x.0 ∙ sym y.0, (x.1.0 ∙ sym y.1.0, x.1.1 ∙ sym y.1.1))

pub unique : (r out : List ℕ) (token : ℕ) (value : List ℕ) (a b : ℕ) (s t o p : List ℕ)
    → Crosses r out token value a s o → Crosses r out token value b t p → (a ≡ b) × ((s ≡ t) × (o ≡ p))
unique r out token value a b s t o p x y =
    let d = done_unique (well_formed r) (unpacked r) out token value x.verdict y.verdict x.left y.left o p x.done y.done in (
      x.answers ∙ ap code d.0 ∙ sym y.answers,
      (
        x.leaves ∙ ap (λ (v : Answer). repacked v x.left r) d.0 ∙ ap (λ (z : Stream). repacked y.verdict z r) d.1.0 ∙ sym y.leaves,
        d.1.1,
      ),
    )
