-- `white::first_length` meets its contract: the characters of one byte come first among the 25, then those of two and of three, and each test says whether one of its length is there.
use native.Mathlib.Omega.{arith}
use Rattle.white.proofs.Lengths.{by_one, by_two, by_three, none_of, too_few_for_two, too_few_for_three}
use Rattle.white.proofs.first_length.Goals as goal

pub returns-in-len1-up : goal.returns-in-len1-up
returns-in-len1-up c = rw (by_one c.args.s.now (omega arith), ← c.one.ensures, c.if-one.true)

pub returns-in-len2-up : goal.returns-in-len2-up
returns-in-len2-up c = rw (by_one c.args.s.now (omega arith), ← c.one.ensures, c.if-one.false, by_two c.args.s.now (omega arith), ← c.two.ensures, c.if-two.true)

pub returns-in-len3-up : goal.returns-in-len3-up
returns-in-len3-up c =
    let s = c.args.s.now in
    rw (
      by_one s (omega arith),
      ← c.one.ensures,
      c.if-one.false,
      by_two s (omega arith),
      ← c.two.ensures,
      c.if-two.false,
      by_three s (omega arith),
      ← c.three.ensures,
      c.if-three.true,
    )

pub returns-in_default : goal.returns-in_default
returns-in_default c = rw (none_of c.args.s.now (omega arith))

pub returns-in_default-2 : goal.returns-in_default-2
returns-in_default-2 c =
    let s = c.args.s.now in
    rw (by_one s (omega arith), ← c.one.ensures, c.if-one.false, too_few_for_two s (omega arith) (omega arith))

pub returns-in_default-3 : goal.returns-in_default-3
returns-in_default-3 c =
    let s = c.args.s.now in
    rw (
      by_one s (omega arith),
      ← c.one.ensures,
      c.if-one.false,
      by_two s (omega arith),
      ← c.two.ensures,
      c.if-two.false,
      too_few_for_three s (omega arith) (omega arith),
    )

pub returns-in_default-4 : goal.returns-in_default-4
returns-in_default-4 c =
    let s = c.args.s.now in
    rw (
      by_one s (omega arith),
      ← c.one.ensures,
      c.if-one.false,
      by_two s (omega arith),
      ← c.two.ensures,
      c.if-two.false,
      by_three s (omega arith),
      ← c.three.ensures,
      c.if-three.false,
    )
