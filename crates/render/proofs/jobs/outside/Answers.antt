-- `render::jobs::outside` meets its contract: the test has no sum that could wrap.
use Rattle.render.specs.JobsLaws.{outside_past, outside_by}
use Rattle.render.proofs.jobs.outside.Goals as goal

pub returns-then-size-job : goal.returns-then-size-job
returns-then-size-job c = outside_past _ _ c.if-size-job.true

pub returns : goal.returns
returns c = outside_by _ _ c.if-size-job.false
