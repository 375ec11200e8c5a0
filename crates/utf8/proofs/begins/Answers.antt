-- `utf8::begins` meets its contract: it asks the definition's tests in their order, by the contracts of `long`, `second` and `tail`.
-- Assumes nothing.
use lib.ListN.{length}
use borrow.Author.Tests.{eq-eqb, ne_eqb, le-leb, lt-leb}
use Rattle.utf8.specs.Scan.{begins}
use Rattle.utf8.proofs.begins.Goals as goal

pub returns-then-n-eq0 : goal.returns-then-n-eq0
unfolding begins
returns-then-n-eq0 c = rw (eq-eqb _ 0 c.if-n-eq0.true)

pub returns-then-long-n : goal.returns-then-long-n
unfolding begins
returns-then-long-n c =
    let s = c.args.s.now in
    let first = c.long in
    rw (ne_eqb (length s) 0 c.if-n-eq0.false, ← first.ensures, le-leb first.result (length s) c.if-long-n.true)

pub returns-then-n-eq1 : goal.returns-then-n-eq1
unfolding begins
returns-then-n-eq1 c =
    let s = c.args.s.now in
    let first = c.long in
    rw (
      ne_eqb (length s) 0 c.if-n-eq0.false,
      ← first.ensures,
      lt-leb first.result (length s) c.if-long-n.false,
      eq-eqb (length s) 1 c.if-n-eq1.true,
    )

pub returns-then-n-eq2 : goal.returns-then-n-eq2
unfolding begins
returns-then-n-eq2 c =
    let first = c.long in
    let none = c.if-n-eq0.false in
    let s = c.args.s.now in
    rw (
      ne_eqb (length s) 0 none,
      ← first.ensures,
      lt-leb first.result (length s) c.if-long-n.false,
      ne_eqb (length s) 1 c.if-n-eq1.false,
      eq-eqb (length s) 2 c.if-n-eq2.true,
    )
    c.second.ensures

pub returns : goal.returns
unfolding begins
returns c =
    let first = c.long in
    let none = c.if-n-eq0.false in
    let s = c.args.s.now in
    rw (
      ne_eqb (length s) 0 none,
      ← first.ensures,
      lt-leb first.result (length s) c.if-long-n.false,
      ne_eqb (length s) 1 c.if-n-eq1.false,
      ne_eqb (length s) 2 c.if-n-eq2.false,
      ← c.second-2.ensures,
      ← c.tail.ensures,
    )
