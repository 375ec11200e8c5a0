-- `corners::options` writes the options, and a comma between them where both are written.
use mathlib.Core.Path.{sym, ◌∙◌}
use borrow.Author.Tests.{not-true, not-false}
use Rattle.corners.specs.Laws.{options_plain, options_on}
use Rattle.corners.proofs.options.Goals as goal

pub returns-then-not-sqlite : goal.returns-then-not-sqlite
returns-then-not-sqlite c d r =
    let at_name = c in
    let at-if1 = at_name in
    let at-sqlite = at-if1 in
    let at-rowid = at-sqlite in
    options_plain (sym at-sqlite.sqlite.ensures ∙ not-true _ at-if1.if-not-sqlite.true-raw) (at-rowid.rowid-q.ensures d r) (at_name.name.ensures d r)

pub returns : goal.returns
returns c d r =
    let at_name = c in
    let at-comma-if = at_name in
    let at-rowid-written = at-comma-if in
    let at-read2 = at-rowid-written in
    let at-if1 = at-read2 in
    let at-sqlite = at-if1 in
    let at-rowid = at-sqlite in
    let at_read = at-rowid in
    options_on at_read.read-r.ensures (at-rowid.rowid-q.ensures d r) at-read2.read-s.ensures (sym at-sqlite.sqlite.ensures ∙ not-false _ at-if1.if-not-sqlite.false-raw) at-rowid-written.rowid_written.ensures at-comma-if.comma_if-q.ensures (at_name.name-2.ensures d r)
