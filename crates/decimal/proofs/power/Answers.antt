-- `decimal::power` meets its contract: an arm for each power of the table, and there is no other.
use Prim.Native.Nat.{ℕ}
use native.Mathlib.Omega.{arith}
use mathlib.Core.Path.{◌≡◌, ap, sym}
use Rattle.laws.specs.Apart.{apart}
use Rattle.decimal.specs.Powers.{most, power}
use Rattle.decimal.proofs.power.Goals as goal

line : {n k : ℕ} → n ≡ k → power k ≡ power n
line e = ap power (sym e)

pub returns-in_default : goal.returns-in_default
returns-in_default c = absurd (omega (arith, apart most c.args.k c.in_default.in_default-own.rest))

pub returns-in-0 : goal.returns-in-0
unfolding power
returns-in-0 c = line c.in-0.is

pub returns-in-1 : goal.returns-in-1
unfolding power
returns-in-1 c = line c.in-1.is

pub returns-in-2 : goal.returns-in-2
unfolding power
returns-in-2 c = line c.in-2.is

pub returns-in-3 : goal.returns-in-3
unfolding power
returns-in-3 c = line c.in-3.is

pub returns-in-4 : goal.returns-in-4
unfolding power
returns-in-4 c = line c.in-4.is

pub returns-in-5 : goal.returns-in-5
unfolding power
returns-in-5 c = line c.in-5.is

pub returns-in-6 : goal.returns-in-6
unfolding power
returns-in-6 c = line c.in-6.is

pub returns-in-7 : goal.returns-in-7
unfolding power
returns-in-7 c = line c.in-7.is

pub returns-in-8 : goal.returns-in-8
unfolding power
returns-in-8 c = line c.in-8.is

pub returns-in-9 : goal.returns-in-9
unfolding power
returns-in-9 c = line c.in-9.is

pub returns-in-10 : goal.returns-in-10
unfolding power
returns-in-10 c = line c.in-10.is

pub returns-in-11 : goal.returns-in-11
unfolding power
returns-in-11 c = line c.in-11.is

pub returns-in-12 : goal.returns-in-12
unfolding power
returns-in-12 c = line c.in-12.is

pub returns-in-13 : goal.returns-in-13
unfolding power
returns-in-13 c = line c.in-13.is

pub returns-in-14 : goal.returns-in-14
unfolding power
returns-in-14 c = line c.in-14.is

pub returns-in-15 : goal.returns-in-15
unfolding power
returns-in-15 c = line c.in-15.is

pub returns-in-16 : goal.returns-in-16
unfolding power
returns-in-16 c = line c.in-16.is

pub returns-in-17 : goal.returns-in-17
unfolding power
returns-in-17 c = line c.in-17.is

pub returns-in-18 : goal.returns-in-18
unfolding power
returns-in-18 c = line c.in-18.is
