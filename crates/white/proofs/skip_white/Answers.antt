-- `white::skip_white` meets its contract. The loop's invariant: the parts of what is left are still the same, and `n` is the length of the White_Space character that stands at `i`.
use native.Mathlib.Omega.{arith}
use mathlib.Core.Path.{refl, ◌∙◌}
use Rattle.white.proofs.Runs.{white_le, over_white}
use borrow.Author.Rules.{rules}
use Rattle.white.proofs.skip_white.Goals as goal

pub loop-n-init : goal.loop-n-init
loop-n-init c = (search rules, search rules, c.white_length-n.ensures, refl)

pub overflow_add-i : goal.overflow_add-i
overflow_add-i c = omega (arith, white_le c.args.s.now c.loop-n.i)

pub loop-n-smaller : goal.loop-n-smaller
loop-n-smaller c = omega (arith, white_le c.args.s.now c.loop-n.i)

pub loop-n-preserved : goal.loop-n-preserved
loop-n-preserved c =
    let at-args = c.args in
    let at-loop = c.loop-n in
    (omega arith, omega (arith, white_le at-args.s.now at-loop.i), c.white_length-n-in-loop-n.ensures, over_white _ _ _ at-loop.invariant.2 c.loop-n-test.true at-loop.invariant.1 ∙ at-loop.invariant.3)

pub returns : goal.returns
returns c =
    record {
      past = c.loop-n.invariant.0;
      within = c.loop-n.invariant.1;
      none = omega arith;
      same
          = c.loop-n.invariant.3;
    }
