-- `append::put` meets its contract: the sink counts on from the record's count, there is room for the bytes, and the record moves on with them.
use Prim.Native.Nat.{◌≤◌}
use native.Mathlib.Omega.{arith}
use lib.ListN.{length}
use Rattle.stream.specs.Sink.{most}
use Rattle.append.specs.Laws.{emits}
use Rattle.append.proofs.Laws.{put_counts, put_moves, put_all}
use borrow.Author.Rules.{rules}
use Rattle.append.proofs.put.Goals as goal

pub overflow_sub-added : goal.overflow_sub-added
overflow_sub-added c =
    let at-append = c in
    let at-present = at-append in
    let at-number-of = at-present in
    let start = at-number-of in
    let held : length start.args.out.now ≤ most = search rules in
    let counts = put_counts _ _ _ _ _ _ start.requires held
    (emits _ _ _ _ _ _ _ _ _ _ at-number-of.number_of.ensures at-present.present.ensures c.then_some.ensures at-append.append-s.ensures) in
    omega (arith, counts)

pub moved-left-requires : goal.moved-left-requires
moved-left-requires c =
    let at-append = c in
    let at-present = at-append in
    let at-number-of = at-present in
    let start = at-number-of in
    let held : length start.args.out.now ≤ most = search rules in
    put_moves _ _ _ _ _ _ start.requires held
    (emits _ _ _ _ _ _ _ _ _ _ at-number-of.number_of.ensures at-present.present.ensures c.then_some.ensures at-append.append-s.ensures)

pub returns : goal.returns
returns c =
    let at-append = c in
    let at-present = at-append in
    let at-number-of = at-present in
    let start = at-number-of in
    let held : length start.args.out.now ≤ most = search rules in
    put_all _ _ _ _ _ _ start.requires held
    (emits _ _ _ _ _ _ _ _ _ _ at-number-of.number_of.ensures at-present.present.ensures c.then_some.ensures at-append.append-s.ensures) _ c.moved-left.ensures
