-- The definitions are right: what the bytes of a whole record say, records past the end, the bounds of a record's numbers, and a NUMBER's bytes.
use Rattle.std.specs.Prelude.{ℕ, zero, suc, ◌+◌, ◌-◌, ◌*◌, ◌^◌, ◌≤◌, ◌<◌, ◌≡◌, refl, List, [], ◌∷◌, length, get_or, take, drop, pos, negsuc, ◌-ℤ◌}
use Rattle.std.proofs.Common.{arith, add-zero, add-suc, ap, drop-cons, drop-drop, lt-ltb, le-ltb, le-leb}
use Rattle.std.proofs.lemmas.Bool.{lt-leb}
use Rattle.laws.specs.Little.{from_little}
use Rattle.record.specs.Record.{part, field, record_of, count, bytes_at, record_at, signed, number_of}
use Rattle.record.specs.declared.Record.{Record}

-- n bytes, one by one, from the k-th behind a place on
abbrev pub bytes : List ℕ → ℕ → ℕ → ℕ → List ℕ
bytes t at k zero = []
bytes t at k (suc n) = get_or t (at + k) 0 ∷ bytes t at (suc k) n

abbrev pub sixteen : List ℕ → ℕ → List ℕ
sixteen t at = get_or t at 0 ∷ bytes t at 1 15

part_bytes : (t : List ℕ) (at k n : ℕ) → at + k + n ≤ length t → take n (drop (at + k) t) ≡ bytes t at k n
part_bytes t at k zero h = refl
part_bytes t at k (suc n) h =
    let ih = part_bytes t at (suc k) n (omega arith) in
    rw (drop-cons t (at + k) 0 (omega arith), ← add-suc, ih)

part_sixteen : (t : List ℕ) (at : ℕ) → at + 16 ≤ length t → part t at 16 ≡ sixteen t at
part_sixteen t at h = simp add-zero at (part_bytes t at 0 16 (omega arith))

-- the record at an index that is there, of its sixteen bytes
pub there : (t : List ℕ) (i : ℕ) → i < count t → record_at t i ≡ record_of (sixteen t (i * 16))
unfolding record_at bytes_at
there t i h = rw (lt-ltb i (count t) h) (ap record_of (part_sixteen t (i * 16) (omega arith)))

-- past the last whole record all numbers are 0
abbrev pub nothing : Record
nothing = record { mark = 0; kind = 0; flags = 0; kids = 0; start = 0; len = 0 }

pub past : (t : List ℕ) (i : ℕ) → count t ≤ i → record_at t i ≡ nothing
unfolding record_at bytes_at
past t i h = rw (le-ltb i (count t) h)

-- the bounds, where the tree is of bytes
pub record Bounded (r : Record) : Type 0 where
  pub mark : r.mark < 2 ^ 16
  pub kind : r.kind < 2 ^ 16
  pub flags : r.flags < 2 ^ 16
  pub kids : r.kids < 2 ^ 16
  pub start : r.start < 2 ^ 32
  pub len : r.len < 2 ^ 32

-- two's complement
pub signed_low : (n : ℕ) → n < 2 ^ 63 → signed n ≡ pos n
unfolding signed
signed_low n h = rw (lt-leb (2 ^ 63) n h)

less : (n : ℕ) → n < 2 ^ 64 → pos n -ℤ pos (2 ^ 64) ≡ negsuc (2 ^ 64 - 1 - n)
less n l =
    let e : 2 ^ 64 - suc n ≡ 2 ^ 64 - 1 - n = omega arith in
    rw (lt-ltb n (2 ^ 64) l, e)

pub signed_high : (n : ℕ) → 2 ^ 63 ≤ n → n < 2 ^ 64 → signed n ≡ negsuc (2 ^ 64 - 1 - n)
unfolding signed
signed_high n h l = rw (le-leb (2 ^ 63) n h) (less n l)

-- the number is that of bytes 8 to 15
halves : (bs : List ℕ) → from_little (take 4 bs) + from_little (take 4 (drop 4 bs)) * 2 ^ 32 ≡ from_little (take 8 bs)
halves [] = refl
halves (a ∷ []) = omega arith
halves (a ∷ b ∷ []) = omega arith
halves (a ∷ b ∷ c ∷ []) = omega arith
halves (a ∷ b ∷ c ∷ d ∷ bs) = omega arith

pub number_bytes : (bs : List ℕ) → number_of (record_of bs) ≡ signed (field bs 8 8)
unfolding number_of
number_bytes bs = ap signed (rw (drop-drop 4 8 bs) at (halves (drop 8 bs)))
