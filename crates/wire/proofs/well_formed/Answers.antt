-- `wire::well_formed` meets its contract: the length, and then the first byte.
use native.Mathlib.Omega.{arith}
use lib.ListN.{length}
use borrow.Author.Tests.{eq-eqb, ne_eqb}
use Rattle.wire.specs.Wire.{well_formed}
use Rattle.wire.proofs.well_formed.Goals as goal

pub returns-then-rec-ne-RECORD : goal.returns-then-rec-ne-RECORD
unfolding well_formed
returns-then-rec-ne-RECORD c = rw (ne_eqb (length c.args.rec.now) 25 (λ h. omega (arith, h, c.if-rec-ne-RECORD.true)))

pub returns : goal.returns
unfolding well_formed
returns c = rw (eq-eqb (length c.args.rec.now) 25 (omega (arith, c.if-rec-ne-RECORD.false)))
