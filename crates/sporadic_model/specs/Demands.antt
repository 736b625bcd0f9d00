-- The tables that a set keeps so that it need not search: what each task may ask of each resource, which resources each task uses, which
-- tasks use each resource, and which ceiling of a resource each processor sees.
use Rattle.std.specs.Prelude.{◌≡◌, ℕ, ◌+◌, ◌<◌, ◌≤◌, List, [], length, map, slice_index_or, Option, None, find}
use Rattle.std.specs.Option.{option_map, option_map_or}
use Rattle.std.specs.Str.{bytes_eq}
use Rattle.sporadic_model.specs.SetDef.{SetDef, TaskDef, ResourceDef, RequestDef, task_at}
use Rattle.sporadic_model.specs.Users.{numbers, used_by, users_of, remote_ceiling_of}
use Rattle.sporadic_model.specs.declared.limits.TheConstants.{MOST_COUNT}
use Rattle.sporadic_model.specs.declared.ids.TaskId.{TaskId}
use Rattle.sporadic_model.specs.declared.ids.ResourceId.{ResourceId}
use Rattle.sporadic_model.specs.declared.demands.Demand.{Demand}

-- What an entry asks for: no request and no tick if there is none.
abbrev pub demand_by : Option RequestDef → Demand
demand_by entry = record { count = option_map_or (λ e. e.count) entry 0; length = option_map_or (λ e. e.length) entry 0 }

-- What a look-up past the end gives.
abbrev pub no_demand : Demand
no_demand = demand_by None

-- What may the task ask of the resource?
abbrev pub demand_for : TaskDef → ResourceDef → Demand
demand_for task resource = demand_by (find (λ e. bytes_eq e.resource resource.name) task.requests)

-- What each task may ask of each resource: one row for each task, and in it one demand for each resource.
abbrev pub demands_in : SetDef → List (List Demand)
demands_in set = map (λ task. map (demand_for task) set.resources) set.tasks

-- Are these the resources that each task uses, task by task?
abbrev pub AreUsed : SetDef → List (List ResourceId) → Type 0
AreUsed set rows = map (map (λ (q : ResourceId). q.0)) rows ≡ map (used_by set) (numbers (length set.tasks))

-- Are these the tasks that use each resource, resource by resource?
abbrev pub AreUsers : SetDef → List (List TaskId) → Type 0
AreUsers set rows = map (map (λ (x : TaskId). x.0)) rows ≡ map (users_of set) (numbers (length set.resources))

-- The ceiling of each resource as processor k sees it.
abbrev pub boosts_on : SetDef → ℕ → List (Option ℕ)
boosts_on set k = map (λ q. remote_ceiling_of set q k) (numbers (length set.resources))

-- Are these the ceilings as the processors see them, one row for each processor and one for 0? No task is on processor 0.
abbrev pub AreBoosts : SetDef → List (List (Option TaskId)) → Type 0
AreBoosts set rows = map (map (option_map (λ (x : TaskId). x.0))) rows ≡ map (boosts_on set) (numbers (set.processors + 1))

-- The numbers of what task x asks of a resource are in their ranges.
pub record IsDemand (set : SetDef) (x : ℕ) (demand : Demand) : Type 0 where
  pub count_to : demand.count ≤ MOST_COUNT
  pub length_to : demand.length < (task_at set x).cost
  pub length_from : 0 < demand.count → 1 ≤ demand.length

-- The demand of task x for resource q, among rows of demands.
abbrev pub demand_in : List (List Demand) → ℕ → ℕ → Demand
demand_in rows x q = slice_index_or (slice_index_or rows x []) q no_demand
