-- `source::behind_slash` meets its contract: a star opens a block comment; before any other byte the slash is read alone.
use mathlib.Core.Path.{◌∙◌}
use borrow.Author.Rules.{rules}
use Rattle.source.specs.Source.{ends}
use Rattle.source.specs.Laws.{slash_alone}
use Rattle.source.proofs.behind_slash.Goals as goal

pub returns-then-b-eq-STAR : goal.returns-then-b-eq-STAR
unfolding ends
returns-then-b-eq-STAR c = λ s. rw c.if-b-eq-STAR.true

pub returns : goal.returns
returns c = λ s. slash_alone _ c.if-b-eq-STAR.false s ∙ c.outside.ensures s
