use Rattle.program_laws.proofs.WrittenPrograms.{limits_follow}
use Rattle.program_laws.proofs.limits_follow_jobs.Goals as goal

pub returns : goal.returns
returns c = limits_follow
