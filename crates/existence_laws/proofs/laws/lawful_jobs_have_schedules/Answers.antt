use Rattle.existence_laws.proofs.EachName.{named_schedule}
use Rattle.existence_laws.proofs.laws.lawful_jobs_have_schedules.Goals as goal

pub returns : goal.returns
returns c = named_schedule
