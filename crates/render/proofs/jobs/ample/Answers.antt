-- `ample` meets its contract: the loop's sum is that of the lengths of the records passed, each below 2^32.
use Rattle.std.specs.Prelude.{◌≡◌}
use Rattle.std.proofs.Common.{arith, ap, rules}
use Rattle.record.specs.Record.{record_at, count}
use Rattle.record.specs.declared.Record.{Record}
use Rattle.tokens.specs.Ample.{sum_next, lengths, ample_for}
use Rattle.render.proofs.jobs.ample.Goals as goal

pub loop-i-preserved : goal.loop-i-preserved
loop-i-preserved c =
    let tree = c.args.tree.now in
    let len : c.read.result.len ≡ (record_at tree c.loop-i.i).len = ap (λ (r : Record). r.len) c.read.ensures in
    (omega (arith, c.loop-i.invariant.0, sum_next (λ r. r.len) tree c.loop-i.i, len), search rules)

pub returns : goal.returns
unfolding ample_for
returns c =
    let tree = c.args.tree.now in
    let z : c.loop-i.i ≡ count tree = omega arith in
    omega (arith, c.loop-i.invariant.0, ap (lengths tree) z)
