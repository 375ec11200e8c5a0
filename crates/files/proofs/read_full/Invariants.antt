-- `files::read_full` ends: each turn leaves less to fill. The buffer keeps its length, which fits a machine word.
use Rattle.std.specs.Prelude.{◌-◌, ◌≡◌, ◌≤◌, length}
use Rattle.files.proofs.read_full.Given as goal

abbrev pub invariant-loop-done : goal.invariant-loop-done
invariant-loop-done g l = (length l.buf ≡ length l.initial.buf) × (l.done ≤ length l.buf)

abbrev pub decreases-loop-done : goal.decreases-loop-done
decreases-loop-done g l = length l.buf - l.done
