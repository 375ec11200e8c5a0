-- `source::outside` meets its contract. A dash or a slash is left to be read with the byte behind it; any other byte is read alone, and a quote opens.
use mathlib.Core.Path.{◌∙◌, sym}
use borrow.Author.Rules.{rules}
use Rattle.source.specs.Laws.{quote_opens, outside_on}
use Rattle.source.proofs.outside.Goals as goal

pub returns-then-b-eq-DASH : goal.returns-then-b-eq-DASH
returns-then-b-eq-DASH c = λ s. rw c.if-b-eq-DASH.true

pub returns-then-b-eq-SLASH : goal.returns-then-b-eq-SLASH
returns-then-b-eq-SLASH c = λ s. rw c.if-b-eq-SLASH.true

pub returns-then-is_quote : goal.returns-then-is_quote
returns-then-is_quote c = quote_opens _ c.if-b-eq-DASH.false c.if-b-eq-SLASH.false (sym c.is_quote.ensures ∙ c.if-is_quote.true)

pub returns : goal.returns
returns c = outside_on _ c.if-b-eq-DASH.false c.if-b-eq-SLASH.false (sym c.is_quote.ensures ∙ c.if-is_quote.false)
