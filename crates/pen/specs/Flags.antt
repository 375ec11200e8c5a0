-- A record whose first three flag bits are given: there is one for each choice of them.
use Rattle.std.specs.Prelude.{◌+◌, ◌≡◌, refl, Bool, true, false, cond}
use Rattle.record.specs.declared.Record.{Record}
use Rattle.tokens.specs.Tokens.{flagged}

abbrev pub bits : Bool → Bool → Bool → Record
bits a b c = record { mark = 0; kind = 0; flags = cond a 1 0 + cond b 2 0 + cond c 4 0; kids = 0; start = 0; len = 0 }

pub first_bit : (a b c : Bool) → a ≡ flagged 0 (bits a b c)
unfolding flagged
first_bit true true true = refl
first_bit true true false = refl
first_bit true false true = refl
first_bit true false false = refl
first_bit false true true = refl
first_bit false true false = refl
first_bit false false true = refl
first_bit false false false = refl

pub second_bit : (a b c : Bool) → b ≡ flagged 1 (bits a b c)
unfolding flagged
second_bit true true true = refl
second_bit true true false = refl
second_bit true false true = refl
second_bit true false false = refl
second_bit false true true = refl
second_bit false true false = refl
second_bit false false true = refl
second_bit false false false = refl

pub third_bit : (a b c : Bool) → c ≡ flagged 2 (bits a b c)
unfolding flagged
third_bit true true true = refl
third_bit true true false = refl
third_bit true false true = refl
third_bit true false false = refl
third_bit false true true = refl
third_bit false true false = refl
third_bit false false true = refl
third_bit false false false = refl
