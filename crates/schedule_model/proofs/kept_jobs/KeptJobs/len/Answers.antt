use Rattle.std.proofs.Common.{ap, arith, length}
use Rattle.schedule_model.proofs.KeptViewLaws.{kept_view-length}
use Rattle.schedule_model.proofs.kept_jobs.KeptJobs.len.Goals as goal

pub returns-clause-value : goal.returns-clause-value
returns-clause-value c =
    omega (arith, c.len.ensures, kept_view-length c.self.inside, ap length c.self.view_is)
