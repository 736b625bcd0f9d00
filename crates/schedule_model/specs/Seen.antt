-- What a contract sees of a job, of a row and of a run: records of their numbers and lists.
use Rattle.std.specs.Prelude.{ℕ, map, option_map, Option}
use Rattle.schedule_model.specs.JobDef.{SegmentDef, JobDef}
use Rattle.schedule_model.specs.RowDef.{RowDef, RunDef}
use Rattle.schedule_model.specs.declared.job.JobId.{JobId}
use Rattle.schedule_model.specs.declared.job.Segment.{Segment}
use Rattle.schedule_model.specs.declared.job.Job.{Job}
use Rattle.schedule_model.specs.declared.row.Row.{Row}
use Rattle.schedule_model.specs.declared.row.RowRun.{RowRun}

abbrev pub segment_seen : Segment → SegmentDef
segment_seen s = record { local = s.local; request = option_map (λ r. (r.0.0, r.1)) s.request }

abbrev pub job_seen : Job → JobDef
job_seen j = record { task = j.task.0; arrival = j.arrival; release = j.release; script = map segment_seen j.script.items }

abbrev pub place_seen : Option JobId → Option ℕ
place_seen o = option_map (λ j. j.0) o

abbrev pub row_seen : Row → RowDef
row_seen r = record { running = map place_seen r.running.items; holders = map place_seen r.holders.items }

abbrev pub run_seen : RowRun → RunDef
run_seen r = record { ticks = r.ticks; row = row_seen r.row }
