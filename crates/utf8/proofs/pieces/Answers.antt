-- `utf8::pieces` meets its contract. The loop's invariant: `i` is within the bytes, and those before it are plain; what is left falls with each turn.
-- Assumes nothing.
use mathlib.Core.Path.{sym}
use mathlib.Core.Bool.{true}
use native.Mathlib.Omega.{arith}
use lib.ListN.{take}
use borrow.Author.Rules.{rules}
use Rattle.laws.specs.Rest.{left_of}
use Rattle.utf8.specs.Plain.{none_plain, both, stop, stop_short}
use Rattle.utf8.proofs.pieces.Goals as goal

pub loop-i-init : goal.loop-i-init
loop-i-init g c = (omega arith, sym (none_plain (take 0 c.args.s.now) (omega arith)))

pub plain_first-requires : goal.plain_first-requires
plain_first-requires g c = left_of c.args.s.now c.loop-i.i g.row.N (omega (arith, c.loop-i-test.true))

pub returns-then-not-plain_first : goal.returns-then-not-plain_first
returns-then-not-plain_first g c =
    stop c.args.s.now c.loop-i.i g.row.N c.plain_first.result c.loop-i.invariant.0 c.loop-i.invariant.1 c.plain_first.ensures
    (search rules)

pub loop-i-preserved : goal.loop-i-preserved
loop-i-preserved g c = (
  omega arith,
  sym (both c.args.s.now c.loop-i.i g.row.N true true (sym c.loop-i.invariant.1) (search rules)),
)

pub returns : goal.returns
returns g c = stop_short c.args.s.now c.loop-i.i g.row.N c.loop-i.invariant.0 c.loop-i.invariant.1 (omega (arith, c.loop-i-test.false))
