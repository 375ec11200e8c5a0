-- `utf8::fault` meets its contract: it goes by the test that the definition goes by. Assumes nothing.
use mathlib.Core.Path.{◌∙◌, sym}
use Rattle.utf8.specs.Scan.{broken_at}
use Rattle.utf8.proofs.fault.Goals as goal

pub returns-then-begins : goal.returns-then-begins
unfolding broken_at
returns-then-begins c = rw (sym c.begins.ensures ∙ c.if-begins.true)

pub returns : goal.returns
unfolding broken_at
returns c = rw (sym c.begins.ensures ∙ c.if-begins.false)
