-- `root_elements` writes the elements of a root LIST.
use borrow.Author.Rules.{rules}
use Rattle.mode.specs.declared.Edition.TheVariants.{Crate}
use Rattle.grammar.specs.Shape.{one}
use Rattle.grammar.specs.Grammar.{root_kinds}
use Rattle.pen.specs.Pen.{input_in}
use Rattle.parts.specs.Laws.{each_in}
use Rattle.cmd.proofs.root_elements.Goals as goal

pub returns : goal.returns
returns c = c.elements.ensures _ (each_in input_in (one root_kinds) (λ q r o o' b h. search rules) Crate)
