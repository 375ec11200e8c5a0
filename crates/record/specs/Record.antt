-- 01, section 2: a tree is a row of 16-byte records, little-endian.
use Rattle.std.specs.Prelude.{ℕ, ◌+◌, ◌*◌, ◌/◌, ◌^◌, List, [], ◌∷◌, Bool, true, false, leb, ltb, eqb, length, take, drop, ℤ, pos, ◌-ℤ◌}
use Rattle.laws.specs.Little.{from_little}
use Rattle.record.specs.declared.Record.{Record}

-- n bytes from a place on, and their number
abbrev pub part : List ℕ → ℕ → ℕ → List ℕ
part bs at n = take n (drop at bs)

abbrev pub field : List ℕ → ℕ → ℕ → ℕ
field bs at n = from_little (part bs at n)

-- "mark (0-1), kind (2-3), flags (4-5), number of children (6-7), text start (8-11), text length (12-15)"
abbrev pub record_of : List ℕ → Record
record_of bs = record {
  mark = field bs 0 2;
  kind = field bs 2 2;
  flags = field bs 4 2;
  kids = field bs 6 2;
  start = field bs 8 4;
  len = field bs 12 4;
}

-- how many whole records there are
abbrev pub count : List ℕ → ℕ
count t = length t / 16

abbrev pub if_there : Bool → List ℕ → List ℕ
if_there true bs = bs
if_there false bs = []

-- the bytes of the record at an index: none, which read as zeros, past the last whole record
unfoldable pub bytes_at : List ℕ → ℕ → List ℕ
bytes_at t i = if_there (ltb i (count t)) (part t (i * 16) 16)

unfoldable pub record_at : List ℕ → ℕ → Record
record_at t i = record_of (bytes_at t i)

-- "each opened by the two-byte mark 53 4E"
abbrev pub mark_ok : Record → Bool
mark_ok r = eqb r.mark (from_little (0x53 ∷ 0x4E ∷ []))

-- what 64 bits stand for: from the sign bit on, 2 to the power 64 less
abbrev pub with_sign : Bool → ℕ → ℤ
with_sign true n = pos n -ℤ pos (2 ^ 64)
with_sign false n = pos n

unfoldable pub signed : ℕ → ℤ
signed n = with_sign (leb (2 ^ 63) n) n

-- "bytes 8-15 a signed 64-bit number": the text start is its low half and the text length its high half
unfoldable pub number_of : Record → ℤ
number_of r = signed (r.start + r.len * 2 ^ 32)
