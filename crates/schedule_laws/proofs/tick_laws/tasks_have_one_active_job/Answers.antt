use Rattle.schedule_laws.proofs.ActiveJobs.{active_listed, one_active, active_stays, active_job_is, active_job_from}
use Rattle.schedule_laws.proofs.ActiveJobs.{active_job_none, active_job_missing}
use Rattle.schedule_laws.proofs.tick_laws.tasks_have_one_active_job.Goals as goal

pub returns-clause-listed : goal.returns-clause-listed
returns-clause-listed c = active_listed

pub returns-clause-one : goal.returns-clause-one
returns-clause-one c = one_active

pub returns-clause-stays : goal.returns-clause-stays
returns-clause-stays c = active_stays

pub returns-clause-some : goal.returns-clause-some
returns-clause-some c = λ w t x j. (active_job_is w t x j, λ h. active_job_from w t x j h.0 h.1)

pub returns-clause-none : goal.returns-clause-none
returns-clause-none c = λ w t x. (λ h j own. active_job_none w t x j h own, active_job_missing w t x)
