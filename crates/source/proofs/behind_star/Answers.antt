-- `source::behind_star` meets its contract: a slash ends the block comment; before any other byte the star is read alone.
use mathlib.Core.Path.{◌∙◌}
use borrow.Author.Rules.{rules}
use Rattle.source.specs.Source.{ends}
use Rattle.source.specs.Laws.{star_alone}
use Rattle.source.proofs.behind_star.Goals as goal

pub returns-then-b-eq-SLASH : goal.returns-then-b-eq-SLASH
unfolding ends
returns-then-b-eq-SLASH c = λ s. rw c.if-b-eq-SLASH.true

pub returns : goal.returns
returns c = λ s. star_alone _ c.if-b-eq-SLASH.false s ∙ c.in_block.ensures s
