use Rattle.schedule_model.proofs.JobListLaws.{lawful_more, listed_more}
use Rattle.schedule_model.proofs.JobRefusalLaws.{free_from_more}
use Rattle.schedule_model.proofs.list_laws.job_refusals_are_exact.Goals as goal

pub returns : goal.returns
returns c = λ jobs job lawful listed task resources. (
  λ none. (lawful_more jobs job lawful task resources none, listed_more jobs job listed none),
  λ more. free_from_more jobs job more.0 more.1,
)
