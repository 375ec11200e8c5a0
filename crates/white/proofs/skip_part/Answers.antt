-- `white::skip_part` meets its contract. The loop's invariant: the bytes from `at` to `i` belong to one part that is still open.
use native.Mathlib.Omega.{arith}
use mathlib.Core.Path.{◌≡◌, sym, ◌∙◌}
use lib.ListN.{length}
use Rattle.white.proofs.Runs.{part_begins, part_goes_on, at_white, at_end}
use Rattle.white.proofs.skip_part.Goals as goal

pub loop-i-init : goal.loop-i-init
loop-i-init c = part_begins _ _ c.requires.0 c.requires.1

pub returns-then-white_length-gt0 : goal.returns-then-white_length-gt0
returns-then-white_length-gt0 c =
    record {
      past = omega arith;
      within = omega arith;
      part = sym c.loop-i.invariant ∙ at_white _ _ _ _ (omega arith) c.white_length.ensures c.if-white_length-gt0.true;
    }

pub loop-i-preserved : goal.loop-i-preserved
loop-i-preserved c =
    part_goes_on _ _ _ (omega arith) (omega arith) (let z = c.white_length.ensures in omega arith) ∙ c.loop-i.invariant

pub returns : goal.returns
returns c =
    let s = c.args.s.now in
    let here = c.loop-i.i in
    let end : here ≡ length s = omega arith in
    record {
      past = omega arith;
      within = omega arith;
      part = rw end at (sym c.loop-i.invariant ∙ at_end s c.args.at here (omega arith) (omega arith));
    }
