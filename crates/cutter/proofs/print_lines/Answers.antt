-- `cutter::print_lines` is safe and ends. The loop's invariant: the rest lies in the text. With each turn the rest is shorter, or the reading does not
-- go on.
use mathlib.Core.Path.{◌≡◌, sym, ◌∙◌}
use Rattle.reader.specs.Kinds.{number_of}
use Rattle.reader.specs.Turns.{going}
use Rattle.reader.proofs.Turns.{fewer}
use Rattle.cutter.proofs.print_lines.Goals as goal

pub loop-rest-smaller : goal.loop-rest-smaller
loop-rest-smaller c =
    let loop = c.loop-rest in
    let goes : going (number_of loop.kind) ≡ 1 = rw (sym c.is_last.ensures ∙ c.loop-rest-test.true) in
    rw goes (fewer _ _ _ _ c.read_kind-behind.ensures)
