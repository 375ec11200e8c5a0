-- `source::next` meets its contract: at each state it calls the function whose contract is that state's.
use borrow.Author.Rules.{rules}
use Rattle.source.proofs.next.Goals as goal

pub returns-in-Outside : goal.returns-in-Outside
returns-in-Outside c = rw c.in-Outside.is c.outside.ensures

pub returns-in-Dash : goal.returns-in-Dash
returns-in-Dash c = rw c.in-Dash.is c.behind_dash.ensures

pub returns-in-Slash : goal.returns-in-Slash
returns-in-Slash c = rw c.in-Slash.is c.behind_slash.ensures

pub returns-in-Line : goal.returns-in-Line
returns-in-Line c = rw c.in-Line.is c.in_line.ensures

pub returns-in-Block : goal.returns-in-Block
returns-in-Block c = rw c.in-Block.is c.in_block.ensures

pub returns-in-Star : goal.returns-in-Star
returns-in-Star c = rw c.in-Star.is c.behind_star.ensures

pub returns-in-Quote : goal.returns-in-Quote
returns-in-Quote c = rw c.in-Quote.is c.in_quote.ensures
