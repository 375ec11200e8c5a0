-- `utf8::char_len` meets its contract: the definition goes by the count of ones of the first byte (`by_ones`), as the code does.
-- Assumes nothing.
use borrow.Author.Tests.{ne_eqb}
use Rattle.utf8.specs.Scan.{counted}
use Rattle.utf8.proofs.Ways.{by_ones}
use Rattle.utf8.proofs.char_len.Goals as goal

pub returns-in-0 : goal.returns-in-0
unfolding counted
returns-in-0 c =
    let start = c in
    let ones = c.ones-n in
    rw (by_ones start.args.s.now ones.result start.requires ones.ensures, c.in-0.is)

pub returns-in-2 : goal.returns-in-2
unfolding counted
returns-in-2 c =
    let start = c in
    let ones = c.ones-n in
    rw (by_ones start.args.s.now ones.result start.requires ones.ensures, c.in-2.is) c.two.ensures

pub returns-in-3 : goal.returns-in-3
unfolding counted
returns-in-3 c =
    let start = c in
    let ones = c.ones-n in
    rw (by_ones start.args.s.now ones.result start.requires ones.ensures, c.in-3.is) c.three.ensures

pub returns-in-4 : goal.returns-in-4
unfolding counted
returns-in-4 c =
    let start = c in
    let ones = c.ones-n in
    rw (by_ones start.args.s.now ones.result start.requires ones.ensures, c.in-4.is) c.four.ensures

pub returns-in_default : goal.returns-in_default
unfolding counted
returns-in_default c =
    let start = c in
    let ones = c.ones-n in
    let n = ones.result in
    let others = c.in_default.in_default-own.rest in
    rw (
      by_ones start.args.s.now n start.requires ones.ensures,
      ne_eqb n 0 others.0.0.0.1,
      ne_eqb n 2 others.0.0.1,
      ne_eqb n 3 others.0.1,
      ne_eqb n 4 others.1,
    )
