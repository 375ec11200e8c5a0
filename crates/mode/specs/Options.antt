-- 02, vii and viii: a caller's options, as the bits of a number. Bit 0 is the switch and bit 1 the SQLite edition; the other bits mean nothing.
use Rattle.std.specs.Prelude.{ℕ, ◌/◌, ◌%◌, ◌^◌, ◌≡◌, refl, Bool, true, false, cond, eqb}
use Rattle.std.proofs.Common.{arith}
use Rattle.mode.specs.declared.Edition.{Edition}
use Rattle.mode.specs.declared.Edition.TheVariants.{Crate, Sqlite}
use Rattle.mode.specs.declared.Mode.{Mode}

abbrev pub is_sqlite : Edition → Bool
is_sqlite Crate = false
is_sqlite Sqlite = true

-- whether a bit of a number is set
abbrev pub bit : ℕ → ℕ → Bool
bit k n = eqb (n / 2 ^ k % 2) 1

unfoldable pub edition_of : ℕ → Edition
edition_of n = cond (bit 1 n) Sqlite Crate

unfoldable pub mode_of : ℕ → Mode
mode_of n = record { strict = bit 0 n; edition = edition_of n }

-- 01 as it is: the switch is off, and the edition is the crate's
abbrev pub plain : Mode
plain = record { strict = false; edition = Crate }

-- no options ask for 01 as it is
pub none_asked : mode_of 0 ≡ plain
unfolding mode_of edition_of
none_asked = refl

-- the other bits mean nothing
pub other_bits : (n : ℕ) → mode_of (n % 4) ≡ mode_of n
unfolding mode_of edition_of
other_bits n =
    let e : n % 4 / 2 ^ 0 % 2 ≡ n / 2 ^ 0 % 2 = omega arith in
    let f : n % 4 / 2 ^ 1 % 2 ≡ n / 2 ^ 1 % 2 = omega arith in
    rw (e, f)
