use Rattle.std.proofs.Common.{ap, arith}
use Rattle.schedule_model.specs.JobLists.{segment_count}
use Rattle.schedule_model.proofs.KeptViewLaws.{kept_view-count}
use Rattle.schedule_model.proofs.kept_jobs.KeptJobs.segments.Goals as goal

pub returns-clause-value : goal.returns-clause-value
returns-clause-value c =
    omega (arith, c.len.ensures, kept_view-count c.self.inside c.self.invariant, ap segment_count c.self.view_is)
