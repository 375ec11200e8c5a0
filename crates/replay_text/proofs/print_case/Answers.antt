-- `replay_text::print_case` keeps to its buffer: what render wrote fits it.
use native.Mathlib.Omega.{arith}
use mathlib.Core.Path.{sym}
use lib.Seq.{length-take-le}
use Rattle.render.specs.Laws.{done_fits}
use Rattle.replay_text.proofs.print_case.Goals as goal

pub slice_bounds-out-end : goal.slice_bounds-out-end
slice_bounds-out-end c = omega (arith, done_fits (rw c.in-Ok.is at c.render-rendered.ensures))

pub slice_bounds-print_text-end : goal.slice_bounds-print_text-end
slice_bounds-print_text-end c = sym (length-take-le _ _ (omega (arith, done_fits (rw c.in-Ok.is at c.render-rendered.ensures))))
