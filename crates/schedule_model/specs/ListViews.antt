-- What a contract sees of a list of jobs and of a list of rows, and what their types keep true.
use Rattle.std.specs.Prelude.{◌≡◌, map}
use Rattle.schedule_model.specs.JobDef.{JobsDef}
use Rattle.schedule_model.specs.Seen.{run_seen}
use Rattle.schedule_model.specs.LawfulJobs.{AreLawfulJobs}
use Rattle.schedule_model.specs.JobLists.{IsJobList}
use Rattle.schedule_model.specs.RowDef.{ticks_of}
use Rattle.schedule_model.specs.Fitting.{RowsDef, IsRowList}
use Rattle.schedule_model.specs.declared.job_list.JobList.TheInside.{Inside as JobsInside}
use Rattle.schedule_model.specs.declared.row_list.RowList.TheInside.{Inside as RowsInside}

abbrev pub jobs_view : JobsInside → JobsDef
jobs_view l = record { set = l.set.now; jobs = l.jobs }

pub record IsJobsKept (l : JobsInside) : Type 0 where
  pub lawful : AreLawfulJobs (jobs_view l)
  pub listed : IsJobList (jobs_view l)

abbrev pub rows_view : RowsInside → RowsDef
rows_view l = record { processors = l.processors; resources = l.resources; jobs = l.jobs; runs = map run_seen l.runs.items }

pub record IsRowsKept (l : RowsInside) : Type 0 where
  pub listed : IsRowList (rows_view l)
  pub counted : l.ticks ≡ ticks_of (map run_seen l.runs.items)
