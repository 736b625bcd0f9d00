use Rattle.existence_laws.proofs.OneJob.{one_job}
use Rattle.existence_laws.proofs.laws.each_task_has_a_lawful_job.Goals as goal

pub returns : goal.returns
returns c = one_job
