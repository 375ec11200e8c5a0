-- `utf8::check` meets its contract. The loop's invariant: `i` is within the bytes, and those before it are a text; what is left falls with each turn.
-- It begins with plain bytes. A turn finds how far the text goes on, or that no character is there, and the longest text ends at `i` (`Turn`);
-- what is then said of the bytes to the end is `broken_encoded`. Assumes nothing.
use native.Mathlib.Omega.{arith}
use lib.ListN.{take}
use lib.Seq.{take_all}
use mathlib.Core.Path.{sym, subst}
use Rattle.utf8.specs.Rfc3629.{Encoded}
use Rattle.laws.specs.Rest.{rest}
use Rattle.utf8.proofs.Beginnings.{broken_encoded}
use Rattle.utf8.specs.Plain.{plain_text}
use Rattle.utf8.proofs.Turn.{some_left, stops, goes_on}
use Rattle.utf8.proofs.check.Goals as goal

pub loop-i-init : goal.loop-i-init
loop-i-init c =
    let start = c.plain_start-i in
    (start.ensures.0, plain_text (take start.result c.args.s.now) start.ensures.1)

pub next_len-n-requires : goal.next_len-n-requires
next_len-n-requires c =
    some_left c.args.s.now c.loop-i.i c.loop-i-test.true

pub returns-then-n-eq0 : goal.returns-then-n-eq0
returns-then-n-eq0 c =
    let s = c.args.s.now in
    let loop = c.loop-i in
    let more = c.loop-i-test.true in
    let found = c.next_len-n in
    let at = loop.i in
    subst (Encoded s) (sym (rw (rest s at) at c.fault.ensures))
    (broken_encoded s at (more, stops s at more loop.invariant.1 found.result found.ensures c.if-n-eq0.true))

pub loop-i-preserved : goal.loop-i-preserved
loop-i-preserved c =
    let s = c.args.s.now in
    let loop = c.loop-i in
    let more = c.loop-i-test.true in
    let found = c.next_len-n in
    goes_on s loop.i more loop.invariant.1 found.result found.ensures c.if-n-eq0.false

pub overflow_add-i : goal.overflow_add-i
overflow_add-i c = omega (arith, loop-i-preserved c)

pub loop-i-smaller : goal.loop-i-smaller
loop-i-smaller c = omega (arith, loop-i-preserved c)

pub returns : goal.returns
returns c =
    rw (take_all c.loop-i.i c.args.s.now c.loop-i-test.false) at c.loop-i.invariant.1
