-- Along a row of records: what is still to be written from here is what was to be written at the start.
use Rattle.std.specs.Prelude.{ℕ, zero, suc, ◌+◌, ◌-◌, ◌≤◌, ◌<◌, ◌≡◌, refl, List, [], Bool, cond}
use native.Mathlib.Omega.{arith}
use Rattle.std.proofs.Common.{not-suc-le-zero, sub-one}
use Rattle.stream.specs.Stream.{Token}
use Rattle.tokens.specs.Tokens.{Out, say, then, rows}
use Rattle.pen.specs.Pen.{Spot, emit, put, Puts, Says}
use Rattle.pen.specs.Laws.{puts_on}

-- tokens if so
abbrev pub opt : Bool → List Token → List Token
opt b ts = cond b ts []

pub nothing : {w : List ℕ} {a : Spot} → Says w [] a a
unfolding put emit
nothing = record { puts = record { is = refl } }

module _ {w : List ℕ} {a : Spot} (f : ℕ → Out) (lead sep : List Token) (n : ℕ) where
  -- a row begins with its first record, and the others follow
  pub row_first : {b c : Spot} → 0 < n → Says w lead a b → Puts w (f b.0.next) b c
      → put w (rows f sep sep (n - 1) c.0.next) c ≡ put w (rows f lead sep n a.0.next) a
  unfolding rows
  row_first {b} {c} h p q = by n h
    where
      one : Puts w (then (say lead a.0.next) f) a c
      one = puts_on f p.puts q

      by : (m : ℕ) → 0 < m → put w (rows f sep sep (m - 1) c.0.next) c ≡ put w (rows f lead sep m a.0.next) a
      by zero l = absurd (not-suc-le-zero l)
      by (suc m) l = rw sub-one (puts_on (rows f sep sep m) one (record { is = refl })).is

  -- and is done where none is left
  pub row_done : {s : Spot} {o : Out} → n ≤ 0 → put w (rows f lead sep n a.0.next) a ≡ put w o s → Puts w o s a
  unfolding rows put emit
  row_done {s} {o} h e = let z : n ≡ 0 = omega arith in record { is = rw z at e }

-- the same where i of n are written
module _ {w : List ℕ} {a : Spot} (f : ℕ → Out) (lead sep : List Token) (i n : ℕ) where
  pub row_next : {b c : Spot} → i < n → Says w lead a b → Puts w (f b.0.next) b c
      → put w (rows f sep sep (n - (i + 1)) c.0.next) c ≡ put w (rows f lead sep (n - i) a.0.next) a
  row_next {b} {c} l p q =
      let one_less : n - (i + 1) ≡ n - i - 1 = omega arith in rw one_less (row_first f lead sep (n - i) (omega arith) p q)

  pub row_end : {s : Spot} {o : Out} → n ≤ i → put w (rows f lead sep (n - i) a.0.next) a ≡ put w o s → Puts w o s a
  row_end l h = row_done f lead sep (n - i) (omega arith) h
