use Rattle.schedule_laws.proofs.TakenRows.{taken_active, fits_jobs_from, fits_jobs_passes}
use Rattle.schedule_laws.proofs.protocol_laws.taken_rows_run_active_jobs.Goals as goal

pub returns-clause-active : goal.returns-clause-active
returns-clause-active c = taken_active

pub returns-clause-fits : goal.returns-clause-fits
returns-clause-fits c = λ w t. (fits_jobs_from w t, fits_jobs_passes w t)
