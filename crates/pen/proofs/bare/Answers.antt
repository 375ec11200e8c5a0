-- `pen::bare` meets its contract: a mark goes by the pieces of the sink, no spelling and one that is not laid by `append`, and one that is laid is the token.
use Prim.Native.Nat.{◌≤◌}
use native.Mathlib.Omega.{arith}
use lib.ListN.{length}
use Rattle.spelling.specs.Laws.{spelled_by_row}
use Rattle.stream.specs.Sink.{most}
use Rattle.pen.specs.Laws.{appended, says_from}
use Rattle.pen.specs.Quick.{marked, not_led, led_word}
use Rattle.pen.proofs.bare.Goals as goal

pub returns-then-w-eq1 : goal.returns-then-w-eq1
returns-then-w-eq1 c =
    let at-put = c in
    let at_gap = at-put in
    let at-if1 = at_gap in
    let at_cut = at-if1 in
    let at_row = at_cut in
    let start = at_row in
    let is = spelled_by_row start.args.from.now.pool.now _ start.args.kind _ at_row.row.ensures at_cut.cut-w.ensures in
    let held : length start.args.out.now ≤ most = omega (arith, start.well_formed.1.0) in
    appended is (marked start.args.from.now.pool.now _ _ _ _ _ _ held is at-if1.if-w-eq1.true at_gap.gap-t.ensures at-put.put_byte-u.ensures c.opens.ensures)

pub returns-then-w-eq0 : goal.returns-then-w-eq0
returns-then-w-eq0 c = c.append.ensures

pub returns-in-None : goal.returns-in-None
returns-in-None c =
    let at-append = c in
    let at_told = at-append in
    let at-lay = at_told in
    let start = at-lay in
    says_from (not_led start.args.p.sink start.args.out.now _ _ _ at-lay.lay.ensures at_told.in-None.is) at-append.append-in-None.ensures

pub returns-in-Some : goal.returns-in-Some
returns-in-Some c =
    let at_told = c in
    let at-lay = at_told in
    let at-if2 = at-lay in
    let at-if1 = at-if2 in
    let at_cut = at-if1 in
    let at_row = at_cut in
    let start = at_row in
    let is = spelled_by_row start.args.from.now.pool.now _ start.args.kind _ at_row.row.ensures at_cut.cut-w.ensures in
    appended is
    (led_word start.args.p.sink start.args.out.now _ _ _ at-lay.lay.ensures start.args.from.now.pool.now _ _ is at-if2.if-w-eq0.false at-if1.if-w-eq1.false at_told.in-Some.is)
