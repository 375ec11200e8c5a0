-- `ample` meets its contract: the loop's sum is that of the lengths of the records passed, each below 2^32.
use Rattle.std.specs.Prelude.{◌*◌, ◌^◌, ◌≤◌, ◌≡◌}
use Rattle.tokens.specs.Ample.{lengths}
use Rattle.render.proofs.jobs.ample.Given as goal

abbrev pub invariant-loop-i : goal.invariant-loop-i
invariant-loop-i l = (l.lengths ≡ lengths l.tree l.i) × (l.lengths ≤ 2 ^ 32 * l.i)
