-- `kinyandoma::trees::kinyandoma_render_with` meets its contract: a length fits the place of an answer.
use native.Mathlib.Omega.{arith}
use Rattle.render.proofs.Laws.{renders_small}
use borrow.Author.Rules.{rules}
use Rattle.kinyandoma.proofs.trees.kinyandoma_render_with.Goals as goal

pub code-requires : goal.code-requires
code-requires c =
    let at-bytes = c.shared_slice_known-1 in
    let at-render = c.render in
    renders_small (λ k. omega (arith, at-bytes.given k)) at-render.ensures

pub returns : goal.returns
returns c =
    let at-render = c.render in
    let at_of = c.of in
    record { outcome = at-render.result; renders = rw at_of.ensures at at-render.ensures; answers = c.code.ensures }
