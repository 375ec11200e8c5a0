-- `render::jobs::render_jobs` meets its contract. Of `one`, `spelling::pool` and `utf8::check` the contracts are all that is known.
use Rattle.std.proofs.Common.{◌<◌, length, arith}
use Rattle.render.specs.JobsLaws as laws
use Rattle.render.proofs.JobsLaws.{single_room}
use Rattle.render.proofs.jobs.render_jobs.Goals as goal

pub loop-job-preserved : goal.loop-job-preserved
loop-job-preserved c =
    let some : c.loop-job.job-index < length c.loop-job.jobs = omega arith in
    let room = single_room c.one-at.ensures c.loop-job.invariant.0 in
    (omega (arith, room, c.one-at.auto.out), laws.one_more _ _ _ _ _ _ _ _ _ some c.loop-job.invariant.1 c.one-at.ensures)

pub returns : goal.returns
returns c = laws.no_more _ _ _ _ _ (omega arith) c.loop-job.invariant.1
