-- `source::behind_dash` meets its contract: a second dash opens a line comment; before any other byte the first is read alone.
use mathlib.Core.Path.{◌∙◌}
use borrow.Author.Rules.{rules}
use Rattle.source.specs.Source.{ends}
use Rattle.source.specs.Laws.{dash_alone}
use Rattle.source.proofs.behind_dash.Goals as goal

pub returns-then-b-eq-DASH : goal.returns-then-b-eq-DASH
unfolding ends
returns-then-b-eq-DASH c = λ s. rw c.if-b-eq-DASH.true

pub returns : goal.returns
returns c = λ s. dash_alone _ c.if-b-eq-DASH.false s ∙ c.outside.ensures s
