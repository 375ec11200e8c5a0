-- `kinyandoma::trees::kinyandoma_measure_with` meets its contract: a length fits the place of an answer.
use native.Mathlib.Omega.{arith}
use Rattle.render.specs.Laws.{measures_small}
use borrow.Author.Rules.{rules}
use Rattle.kinyandoma.proofs.trees.kinyandoma_measure_with.Goals as goal

pub code-requires : goal.code-requires
code-requires c = measures_small (λ k. omega (arith, c.shared_slice_known-1.given k)) c.measure.ensures

pub returns : goal.returns
returns c =
    let at-measure = c.measure in
    let at_of = c.of in
    record { outcome = at-measure.result; measures = rw at_of.ensures at at-measure.ensures; answers = c.code.ensures }
