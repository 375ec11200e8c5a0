-- `parts::token` writes the token that the record is, without a value or with one.
use native.Mathlib.Omega.{arith}
use Rattle.grammar.specs.Kind.{TOKEN}
use Rattle.parts.specs.Laws.{of_other, bare_token, valued_token}
use Rattle.parts.proofs.token.Goals as goal

pub returns-then-r-ne-TOKEN : goal.returns-then-r-ne-TOKEN
returns-then-r-ne-TOKEN c =
    let at-pass = c in
    let at_read = at-pass in
    let at-args = at_read in
    of_other at-args.args.from.now.text.now TOKEN at_read.read-r.ensures at-pass.pass-q.ensures _ c.if-r-ne-TOKEN.true

pub returns-then-r-lt-PRESENT : goal.returns-then-r-lt-PRESENT
returns-then-r-lt-PRESENT c =
    let at_bare = c in
    let at-if2 = at_bare in
    let at-if1 = at-if2 in
    let at-pass = at-if1 in
    let at_read = at-pass in
    let at-args = at_read in
    bare_token at-args.args.from.now.text.now at_read.read-r.ensures at-pass.pass-q.ensures at-if1.if-r-ne-TOKEN.false (omega (arith, at-if2.if-r-lt-PRESENT.true))
    at_bare.bare.ensures

pub returns : goal.returns
returns c =
    let at-valued = c in
    let at_part = at-valued in
    let at-if2 = at_part in
    let at-if1 = at-if2 in
    let at-pass = at-if1 in
    let at_read = at-pass in
    let at-args = at_read in
    valued_token at-args.args.from.now.text.now at_read.read-r.ensures at-pass.pass-q.ensures at-if1.if-r-ne-TOKEN.false (omega (arith, at-if2.if-r-lt-PRESENT.false))
    at_part.part-value.ensures at-valued.valued.ensures
