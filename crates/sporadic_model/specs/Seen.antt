-- What a contract sees of the parts of a task set: a record of their numbers, lists and bytes.
use Rattle.std.specs.Prelude.{map, string_bytes}
use Rattle.sporadic_model.specs.SetDef.{RequestDef, TaskDef, ResourceDef, SetDef}
use Rattle.sporadic_model.specs.declared.parts.RequestPart.{RequestPart}
use Rattle.sporadic_model.specs.declared.parts.TaskPart.{TaskPart}
use Rattle.sporadic_model.specs.declared.parts.ResourcePart.{ResourcePart}
use Rattle.sporadic_model.specs.declared.parts.Parts.{Parts}

abbrev pub request_seen : RequestPart → RequestDef
request_seen r = record { resource = string_bytes r.resource; count = r.count; length = r.length }

abbrev pub resource_seen : ResourcePart → ResourceDef
resource_seen r = record { name = string_bytes r.name; home = r.home }

abbrev pub task_seen : TaskPart → TaskDef
task_seen t = record {
  name = string_bytes t.name;
  processor = t.processor;
  period = t.period;
  deadline = t.deadline;
  cost = t.cost;
  local = t.local;
  jitter = t.jitter;
  requests = map request_seen t.requests.items;
}

abbrev pub parts_seen : Parts → SetDef
parts_seen p = record { processors = p.processors; resources = map resource_seen p.resources.items; tasks = map task_seen p.tasks.items }
