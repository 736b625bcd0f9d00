use Rattle.std.proofs.Common.{◌≡◌, ◌≤◌, [], drop, length, None}
use Rattle.schedule_model.specs.JobLists.{last_arrival}
use Rattle.schedule_model.specs.Kept.{kept_jobs}
use Rattle.schedule_model.proofs.kept_jobs.last_arrival_among.Given as goal

abbrev pub invariant-loop-left : goal.invariant-loop-left
invariant-loop-left l = record {
  within : l.left ≤ length l.jobs;
  none : last_arrival (kept_jobs [] 0 (drop l.left l.jobs)) l.x.0 ≡ None;
}

abbrev pub decreases-loop-left : goal.decreases-loop-left
decreases-loop-left l = l.left
