-- `corners::source` writes the expression, or the source behind it.
use Rattle.corners.specs.Laws.{the_run, the_source}
use Rattle.corners.proofs.source.Goals as goal

pub returns-then-r : goal.returns-then-r
returns-then-r c d r =
    let at-run2 = c in
    let at-if1 = at-run2 in
    let at_read = at-if1 in
    let at-run = at_read in
    let at-args = at-run in
    the_run at-args.args.from.now.text.now (at-run.run-behind.ensures d r) at_read.read-r.ensures at-if1.if-r.true (at-run2.run-q.ensures d r) c.pass.ensures

pub returns : goal.returns
returns c d r =
    let at-sourced = c in
    let at_part = at-sourced in
    let at-pass2 = at_part in
    let at-if1 = at-pass2 in
    let at_read = at-if1 in
    let at-run = at_read in
    let at-args = at-run in
    the_source at-args.args.from.now.text.now (at-run.run-behind.ensures d r) at_read.read-r.ensures at-if1.if-r.false at_part.part.ensures at-pass2.pass-q.ensures at-sourced.sourced.ensures
