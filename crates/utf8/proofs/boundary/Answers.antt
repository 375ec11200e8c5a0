-- `utf8::boundary` meets its contract: below the length it is the byte that decides, and from there on the length.
-- Assumes nothing.
use mathlib.Core.Path.{sym}
use mathlib.Core.Bool.{or-false}
use native.Mathlib.Omega.{arith}
use lib.Dec.{eqb}
use lib.ListN.{length}
use borrow.Author.Tests.{lt-ltb, le-ltb, ne_eqb}
use Rattle.utf8.specs.Rfc3629.{boundary}
use Rattle.utf8.proofs.boundary.Goals as goal

pub returns-then-at-s : goal.returns-then-at-s
unfolding boundary
returns-then-at-s c =
    let s = c.args.s.now in
    let at = c.args.at in
    let inside = c.if-at-s.true in
    rw (lt-ltb at (length s) inside, ne_eqb at (length s) (λ e. omega arith), c.tail.ensures)

pub returns : goal.returns
unfolding boundary
returns c =
    let s = c.args.s.now in
    let at = c.args.at in
    rw (le-ltb at (length s) c.if-at-s.false) (sym (or-false (eqb at (length s))))
