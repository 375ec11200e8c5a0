-- What is left to be done, from here, makes the run of all jobs from the start (`Begun` of `specs/JobsLaws.antt`).
use Rattle.std.specs.Prelude.{◌≤◌, length}
use Rattle.mode.specs.Options.{mode_of}
use Rattle.render.specs.JobsLaws as laws
use Rattle.render.proofs.jobs.render_jobs.Given as goal

abbrev pub invariant-loop-job : goal.invariant-loop-job
invariant-loop-job l = (l.at ≤ length l.out) × laws.Begun (mode_of l.options) l.trees l.text l.initial.jobs l.initial.out l.job-index l.jobs l.out l.at
