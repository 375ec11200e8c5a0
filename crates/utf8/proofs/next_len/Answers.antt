-- `utf8::next_len` meets its contract: a plain byte has no ones, so that its character has one byte; any other is told by `char_len`,
-- and the text goes on with the plain bytes behind it. Assumes nothing.
use Prim.Native.Nat.{◌≤◌}
use mathlib.Core.Path.{◌∙◌, sym}
use native.Mathlib.Omega.{arith}
use lib.ListN.{length, get_or}
use Rattle.laws.specs.Rest.{rest}
use Rattle.utf8.specs.Scan.{counted}
use Rattle.utf8.specs.Characters.{ones_0}
use Rattle.utf8.specs.Plain.{plain_within}
use Rattle.utf8.proofs.Turn.{goes_width, goes_far}
use Rattle.utf8.proofs.Ways.{by_ones}
use Rattle.utf8.proofs.next_len.Goals as goal

fits : (c : goal.Else-n-eq0) → c.char_len-n.result ≤ length c.args.s.now
fits c = ((goes_width c.args.s.now c.char_len-n.result c.char_len-n.ensures).1 c.if-n-eq0.false).0

pub returns-then-plain_byte : goal.returns-then-plain_byte
unfolding counted
returns-then-plain_byte c =
    let start = c in
    let s = start.args.s.now in
    let low = plain_within (get_or s 0 0) (sym c.plain_byte.ensures ∙ c.if-plain_byte.true) in
    goes_width s 1 (rw (by_ones s 0 start.requires (sym (ones_0 (get_or s 0 0) (omega arith)))))

pub returns-then-n-eq0 : goal.returns-then-n-eq0
returns-then-n-eq0 c = goes_width c.args.s.now 0 (sym c.if-n-eq0.true ∙ c.char_len-n.ensures)

pub slice_bounds-pieces-count : goal.slice_bounds-pieces-count
slice_bounds-pieces-count c = omega (arith, fits c)

pub slice_bounds-pieces-start : goal.slice_bounds-pieces-start
slice_bounds-pieces-start c = omega (arith, fits c)

pub slice_bounds-pieces-end : goal.slice_bounds-pieces-end
slice_bounds-pieces-end c = omega (arith, fits c)

pub returns : goal.returns
returns c =
    let s = c.args.s.now in
    let char = c.char_len-n in
    let more = c.pieces in
    goes_far s char.result more.result (goes_width s char.result char.ensures) c.if-n-eq0.false
    (rw (rest s char.result) at more.ensures.within) (rw (rest s char.result) at more.ensures.plain)

pub overflow_add-result : goal.overflow_add-result
overflow_add-result c = omega (arith, c.pieces.ensures.within)
