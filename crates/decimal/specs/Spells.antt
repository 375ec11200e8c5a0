-- What the code returns for a number: its text, filled up with zero bytes, and the text's length.
use Rattle.std.specs.Prelude.{◌-◌, ◌≡◌, ◌++◌, length, replicate, ℤ}
use Rattle.decimal.specs.Decimal.{decimal}
use Rattle.decimal.specs.declared.Decimal.{Decimal}

pub record Spells (z : ℤ) (r : Decimal) : Type 0 where
  pub bytes : r.bytes ≡ decimal z ++ replicate (20 - length (decimal z)) 0
  pub len : r.len ≡ length (decimal z)
