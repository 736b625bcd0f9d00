use Rattle.schedule_model.specs.JobDef.{job_of}
use Rattle.clock_laws.proofs.RoundedJobs.{jobs_in_cycles, spare_left}
use Rattle.clock_laws.proofs.rounded_jobs_are_lawful_in_cycles.Goals as goal

pub returns-clause-lawful : goal.returns-clause-lawful
returns-clause-lawful c = jobs_in_cycles

pub returns-clause-spare : goal.returns-clause-spare
returns-clause-spare c = λ k measured set jobs whole j some accepted rounding lawful l.
    spare_left k measured set (job_of jobs j) whole some accepted rounding (lawful.each j l)
