-- The bounds of a record's numbers, and the number at an index.
use Rattle.std.specs.Prelude.{ℕ, ◌+◌, ◌*◌, ◌^◌, ◌<◌, ◌≡◌, refl, List, [], ◌∷◌, Bool, true, false, ltb, get_or}
use Rattle.std.proofs.Common.{arith, lit<, ltb-true, ltb-false}
use Rattle.laws.specs.Little.{from_little}
use Rattle.record.specs.Record.{field, record_of, count, bytes_at, record_at, signed, number_of}
use Rattle.record.specs.declared.Record.{Record}
use Rattle.record.specs.Laws.{sixteen, nothing, there, past, Bounded, number_bytes}

-- what holds of a record built of bytes, and of zeros, holds of the record at any index
module _ (P : Record → Type 0) (t : List ℕ) (i : ℕ) (some : P (record_of (sixteen t (i * 16)))) (none : P nothing) where
  by : (b : Bool) → ltb i (count t) ≡ b → P (record_at t i)
  by true e = rw (there t i (ltb-true i (count t) e)) some
  by false e = rw (past t i (ltb-false i (count t) e)) none

  either : P (record_at t i)
  either = by (ltb i (count t)) refl

two_below : {a b : ℕ} → a < 256 → b < 256 → from_little (a ∷ b ∷ []) < 2 ^ 16
two_below h k = omega arith

four_below : {a b c d : ℕ} → a < 256 → b < 256 → c < 256 → d < 256 → from_little (a ∷ b ∷ c ∷ d ∷ []) < 2 ^ 32
four_below h k l m = omega arith

sixteen_bounded : (t : List ℕ) (at : ℕ) → ((k : ℕ) → get_or t k 0 < 256) → Bounded (record_of (sixteen t at))
sixteen_bounded t at b = record {
  mark = two_below (b at) (b (at + 1));
  kind = two_below (b (at + 2)) (b (at + 3));
  flags = two_below (b (at + 4)) (b (at + 5));
  kids = two_below (b (at + 6)) (b (at + 7));
  start = four_below (b (at + 8)) (b (at + 9)) (b (at + 10)) (b (at + 11));
  len = four_below (b (at + 12)) (b (at + 13)) (b (at + 14)) (b (at + 15));
}

nothing_bounded : Bounded nothing
nothing_bounded = record { mark = lit< tt; kind = lit< tt; flags = lit< tt; kids = lit< tt; start = lit< tt; len = lit< tt }

pub bounded : (t : List ℕ) (i : ℕ) → ((k : ℕ) → get_or t k 0 < 256) → Bounded (record_at t i)
bounded t i b = either Bounded t i (sixteen_bounded t (i * 16) b) nothing_bounded

pub number_at : (t : List ℕ) (i : ℕ) → number_of (record_at t i) ≡ signed (field (bytes_at t i) 8 8)
unfolding record_at
number_at t i = number_bytes (bytes_at t i)
