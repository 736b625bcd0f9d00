-- The task set of a value of the form. If there is no deadline, it is the period. If there is no local limit, it is the cost. If there is
-- no jitter, it is 0. If requests or resources are missing, there are none. All numbers that the form requires are there, so the 0 for a
-- missing number is never used.
use Rattle.std.specs.Prelude.{ℕ, map, codes}
use Rattle.serde_json.specs.Data.{Data}
use Rattle.sporadic_model.specs.SetDef.{RequestDef, TaskDef, ResourceDef, SetDef}
use Rattle.taskset_json.specs.Members.{whole_at, whole_or, text_at, list_at}

abbrev pub resource_written : Data → ResourceDef
resource_written d = record { name = text_at (codes "name") d; home = whole_at (codes "home") d }

abbrev pub request_written : Data → RequestDef
request_written d = record {
  resource = text_at (codes "resource") d;
  count = whole_or 0 (codes "count") d;
  length = whole_or 0 (codes "length") d;
}

abbrev pub task_written : Data → TaskDef
task_written d =
    let period : ℕ = whole_or 0 (codes "period") d in
    let cost : ℕ = whole_or 0 (codes "cost") d in
    record {
      name = text_at (codes "name") d;
      processor = whole_or 0 (codes "processor") d;
      period = period;
      deadline = whole_or period (codes "deadline") d;
      cost = cost;
      local = whole_or cost (codes "local") d;
      jitter = whole_or 0 (codes "jitter") d;
      requests = map request_written (list_at (codes "requests") d);
    }

abbrev pub set_written : Data → SetDef
set_written d =
    record {
      processors = whole_or 0 (codes "processors") d;
      resources = map resource_written (list_at (codes "resources") d);
      tasks = map task_written (list_at (codes "tasks") d);
    }
