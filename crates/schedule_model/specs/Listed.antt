-- What a contract sees of a listed job.
use Rattle.schedule_model.specs.JobDef.{JobDef}
use Rattle.schedule_model.specs.declared.listed.ListedJob.{ListedJob}

abbrev pub listed_seen : ListedJob → JobDef
listed_seen j = record { task = j.task.0; arrival = j.arrival; release = j.release; script = j.script }
