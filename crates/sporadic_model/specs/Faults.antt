-- The refusals by the kind of place at which each points.
use Rattle.std.specs.Prelude.{ℕ}
use Rattle.sporadic_model.specs.declared.judging.ResourceFault.{ResourceFault}
use Rattle.sporadic_model.specs.declared.judging.ResourceFault.TheVariants as at_resource
use Rattle.sporadic_model.specs.declared.judging.TaskFault.{TaskFault}
use Rattle.sporadic_model.specs.declared.judging.TaskFault.TheVariants as at_task
use Rattle.sporadic_model.specs.declared.judging.RequestFault.{RequestFault}
use Rattle.sporadic_model.specs.declared.judging.RequestFault.TheVariants as at_request
use Rattle.sporadic_model.specs.declared.refusal.Place.TheVariants as place
use Rattle.sporadic_model.specs.declared.refusal.ModelRefusal.{ModelRefusal}
use Rattle.sporadic_model.specs.declared.refusal.ModelRefusal.TheVariants as refusal

abbrev pub resource_refusal : ResourceFault → ℕ → ModelRefusal
resource_refusal at_resource.Name q = refusal.Name (place.Resource q)
resource_refusal at_resource.TwiceName q = refusal.TwiceName (place.Resource q)
resource_refusal at_resource.Home q = refusal.Home (record { 0 = q })

abbrev pub task_refusal : TaskFault → ℕ → ModelRefusal
task_refusal at_task.Name x = refusal.Name (place.Task x)
task_refusal at_task.TwiceName x = refusal.TwiceName (place.Task x)
task_refusal at_task.Processor x = refusal.Processor (record { 0 = x })
task_refusal at_task.Period x = refusal.Period (record { 0 = x })
task_refusal at_task.Deadline x = refusal.Deadline (record { 0 = x })
task_refusal at_task.Cost x = refusal.Cost (record { 0 = x })
task_refusal at_task.Local x = refusal.Local (record { 0 = x })
task_refusal at_task.Jitter x = refusal.Jitter (record { 0 = x })

abbrev pub request_refusal : RequestFault → ℕ → ℕ → ModelRefusal
request_refusal at_request.Resource x j = refusal.Resource (place.Request x j)
request_refusal at_request.TwiceRequest x j = refusal.TwiceRequest (place.Request x j)
request_refusal at_request.Count x j = refusal.Count (place.Request x j)
request_refusal at_request.Length x j = refusal.Length (place.Request x j)
