-- `cutter::print_lines` is safe and ends. The loop's invariant: the rest lies in the text. With each turn the rest is shorter, or the reading does not
-- go on.
use Prim.Native.Nat.{◌+◌, ◌*◌, ◌≤◌}
use lib.ListN.{length}
use Rattle.reader.specs.Kinds.{number_of}
use Rattle.reader.specs.Turns.{going}
use Rattle.cutter.proofs.print_lines.Given as goal

abbrev pub invariant-loop-rest : goal.invariant-loop-rest
invariant-loop-rest l = length l.rest ≤ length l.text

abbrev pub decreases-loop-rest : goal.decreases-loop-rest
decreases-loop-rest l = 2 * length l.rest + going (number_of l.kind)
