-- `printer::print_text` keeps to its buffer: what render wrote fits it.
use native.Mathlib.Omega.{arith}
use mathlib.Core.Path.{sym}
use lib.Seq.{length-take-le}
use Rattle.render.specs.Laws.{done_fits}
use Rattle.printer.proofs.print_text.Goals as goal

pub slice_bounds-out-end : goal.slice_bounds-out-end
slice_bounds-out-end c = omega (arith, done_fits (rw c.in-Ok.is at c.render-outcome.ensures))

pub slice_bounds-write_all-end : goal.slice_bounds-write_all-end
slice_bounds-write_all-end c = sym (length-take-le _ _ (omega (arith, done_fits (rw c.in-Ok.is at c.render-outcome.ensures))))
