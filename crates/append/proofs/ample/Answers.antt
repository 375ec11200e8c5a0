-- `append::ample` meets its contract: each test that fails answers no.
use mathlib.Core.Bool.{false≢true}
use native.Mathlib.Omega.{arith}
use Rattle.append.proofs.ample.Goals as goal

pub returns-then-size-rec : goal.returns-then-size-rec
returns-then-size-rec c e = absurd (false≢true e)

pub returns-then-room-lt-LONGEST_TOKEN : goal.returns-then-room-lt-LONGEST_TOKEN
returns-then-room-lt-LONGEST_TOKEN c e = absurd (false≢true e)

pub returns-then-room-len : goal.returns-then-room-len
returns-then-room-len c e = absurd (false≢true e)

pub returns : goal.returns
returns c e = record { within = omega (arith, c.if-size-rec.false); fits = omega (arith, c.if-room-len.false, c.if-room-lt-LONGEST_TOKEN.false, c.if-size-rec.false) }
