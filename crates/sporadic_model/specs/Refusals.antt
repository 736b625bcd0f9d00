-- When is each refusal due, and in which order are they tried?
use Rattle.std.specs.Prelude.{◌≡◌, ℕ, ◌-◌, ◌==◌, ◌&&◌, not, Bool, false, nat_lt, List, [], ◌∷◌, ◌++◌, length, map, take}
use Rattle.std.specs.Prelude.{Option, Some, Result, Ok, Err, find}
use Rattle.std.specs.List.{flat_map, list_any}
use Rattle.std.specs.Option.{option_map_or}
use Rattle.std.specs.Int.{is_in_range}
use Rattle.std.specs.Str.{bytes_eq}
use Rattle.sporadic_model.specs.SetDef.{SetDef, TaskDef, RequestDef, ResourceDef, task_at, resource_at, request_at, request_count}
use Rattle.sporadic_model.specs.Names.{is_name}
use Rattle.sporadic_model.specs.Users.{numbers}
use Rattle.sporadic_model.specs.Accepted.{IsAccepted}
use Rattle.sporadic_model.specs.declared.limits.TheConstants.{MOST_PROCESSORS, MOST_TASKS, MOST_RESOURCES}
use Rattle.sporadic_model.specs.declared.limits.TheConstants.{MOST_REQUESTS, MOST_TICKS, MOST_COUNT}
use Rattle.sporadic_model.specs.declared.refusal.Place.TheVariants as place
use Rattle.sporadic_model.specs.declared.refusal.SizeOf.TheVariants as size
use Rattle.sporadic_model.specs.declared.refusal.ModelRefusal.{ModelRefusal}
use Rattle.sporadic_model.specs.declared.refusal.ModelRefusal.TheVariants as refusal

-- Does one of the tasks have the name?
abbrev pub has_task_named : List TaskDef → List ℕ → Bool
has_task_named tasks name = list_any (λ t. bytes_eq t.name name) tasks

-- Does one of the resources have the name?
abbrev pub has_resource_named : List ResourceDef → List ℕ → Bool
has_resource_named resources name = list_any (λ r. bytes_eq r.name name) resources

-- Does one of the entries name the resource?
abbrev pub has_entry_for : List RequestDef → List ℕ → Bool
has_entry_for entries name = list_any (λ e. bytes_eq e.resource name) entries

-- Is the refusal due: has the set the fault that it names, at the place that it names? A refusal that names a place of another kind is
-- never due, and want of memory isn't either.
unfoldable pub is_due : SetDef → ModelRefusal → Bool
is_due set refusal.NoTask = length set.tasks == 0
is_due set (refusal.Size size.Processors) = not (is_in_range 1 MOST_PROCESSORS set.processors)
is_due set (refusal.Size size.Tasks) = nat_lt MOST_TASKS (length set.tasks)
is_due set (refusal.Size size.Resources) = nat_lt MOST_RESOURCES (length set.resources)
is_due set (refusal.Size size.Requests) = nat_lt MOST_REQUESTS (request_count set)
is_due set (refusal.Name (place.Resource q)) = not (is_name (resource_at set q).name)
is_due set (refusal.Name (place.Task x)) = not (is_name (task_at set x).name)
is_due set (refusal.TwiceName (place.Resource q)) = has_resource_named (take q set.resources) (resource_at set q).name
is_due set (refusal.TwiceName (place.Task x)) = has_task_named (take x set.tasks) (task_at set x).name
is_due set (refusal.Processor x) = not (is_in_range 1 set.processors (task_at set x.0).processor)
is_due set (refusal.Period x) = not (is_in_range 1 MOST_TICKS (task_at set x.0).period)
is_due set (refusal.Deadline x) = not (is_in_range 1 (task_at set x.0).period (task_at set x.0).deadline)
is_due set (refusal.Cost x) = not (is_in_range 1 (task_at set x.0).deadline (task_at set x.0).cost)
is_due set (refusal.Local x) = not (is_in_range 1 (task_at set x.0).cost (task_at set x.0).local)
is_due set (refusal.Resource (place.Request x j)) = not (has_resource_named set.resources (request_at set x j).resource)
is_due set (refusal.TwiceRequest (place.Request x j)) = has_entry_for (take j (task_at set x).requests) (request_at set x j).resource
is_due set (refusal.Count (place.Request x j)) = not (is_in_range 1 MOST_COUNT (request_at set x j).count)
is_due set (refusal.Length (place.Request x j)) =
    not (nat_lt 0 (request_at set x j).length && nat_lt (request_at set x j).length (task_at set x).cost)
is_due set (refusal.Home q) = option_map_or (λ k. not (is_in_range 1 set.processors k)) (resource_at set q.0).home false
is_due set (refusal.Jitter x) = nat_lt ((task_at set x.0).deadline - (task_at set x.0).cost) (task_at set x.0).jitter
is_due set _ = false

-- The refusals of one kind, in the order of their places: one for each resource, for each task, for each request entry of task x, or for
-- each request entry, task by task.
abbrev pub at_resources : SetDef → (ℕ → ModelRefusal) → List ModelRefusal
at_resources set refusal_at = map refusal_at (numbers (length set.resources))

abbrev pub at_tasks : SetDef → (ℕ → ModelRefusal) → List ModelRefusal
at_tasks set refusal_at = map refusal_at (numbers (length set.tasks))

abbrev pub at_entries : SetDef → ℕ → (ℕ → ℕ → ModelRefusal) → List ModelRefusal
at_entries set x refusal_at = map (refusal_at x) (numbers (length (task_at set x).requests))

abbrev pub at_requests : SetDef → (ℕ → ℕ → ModelRefusal) → List ModelRefusal
at_requests set refusal_at = flat_map (λ x. at_entries set x refusal_at) (numbers (length set.tasks))

-- The refusals in the order in which they are tried.
unfoldable pub size_refusals : List ModelRefusal
size_refusals = refusal.NoTask ∷ refusal.Size size.Processors ∷ refusal.Size size.Tasks ∷ refusal.Size size.Resources
    ∷ refusal.Size size.Requests ∷ []

abbrev pub name_refusals : SetDef → List ModelRefusal
name_refusals set =
    at_resources set (λ q. refusal.Name (place.Resource q))
    ++ (at_tasks set (λ x. refusal.Name (place.Task x))
    ++ (at_resources set (λ q. refusal.TwiceName (place.Resource q))
    ++ at_tasks set (λ x. refusal.TwiceName (place.Task x))))

abbrev pub number_refusals : SetDef → List ModelRefusal
number_refusals set =
    at_tasks set (λ x. refusal.Processor (record { 0 = x }))
    ++ (at_tasks set (λ x. refusal.Period (record { 0 = x }))
    ++ (at_tasks set (λ x. refusal.Deadline (record { 0 = x }))
    ++ (at_tasks set (λ x. refusal.Cost (record { 0 = x }))
    ++ at_tasks set (λ x. refusal.Local (record { 0 = x })))))

abbrev pub request_refusals : SetDef → List ModelRefusal
request_refusals set =
    at_requests set (λ x j. refusal.Resource (place.Request x j))
    ++ (at_requests set (λ x j. refusal.TwiceRequest (place.Request x j))
    ++ (at_requests set (λ x j. refusal.Count (place.Request x j))
    ++ at_requests set (λ x j. refusal.Length (place.Request x j))))

abbrev pub refusals_in_order : SetDef → List ModelRefusal
refusals_in_order set =
    size_refusals
    ++ (name_refusals set
    ++ (number_refusals set
    ++ (request_refusals set
    ++ (at_resources set (λ q. refusal.Home (record { 0 = q }))
    ++ at_tasks set (λ x. refusal.Jitter (record { 0 = x }))))))

-- The first refusal that is due.
abbrev pub first_refusal : SetDef → Option ModelRefusal
first_refusal set = find (is_due set) (refusals_in_order set)

-- What the answer says of the parts of a task set: they are accepted as they are, or it is the first refusal that is due. Only want of
-- memory says nothing of them.
abbrev pub Judged : Result SetDef ModelRefusal → SetDef → Type 0
Judged (Ok set) parts = IsAccepted parts × (set ≡ parts)
Judged (Err refusal.Memory) parts = Unit {0}
Judged (Err r) parts = first_refusal parts ≡ Some r
