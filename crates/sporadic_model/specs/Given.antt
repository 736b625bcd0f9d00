-- What the private functions on parts, on tables and on sets are given, and what they answer.
use Rattle.std.specs.Prelude.{◌≡◌, ℕ, ◌<◌, ◌^◌, List, [], length, map, slice_index_or, Vec}
use Rattle.std.specs.Global.{Global}
use Rattle.sporadic_model.specs.SetDef.{SetDef, TaskDef, ResourceDef, task_at, resource_at}
use Rattle.sporadic_model.specs.Users.{count_of, length_of}
use Rattle.sporadic_model.specs.Seen.{parts_seen}
use Rattle.sporadic_model.specs.Accepted.{IsAccepted, SetSizes, TaskNumbers, AreHomes}
use Rattle.sporadic_model.specs.Demands.{demands_in, AreUsers, IsDemand}
use Rattle.sporadic_model.specs.declared.parts.Parts.{Parts}
use Rattle.sporadic_model.specs.declared.ids.TaskId.{TaskId}
use Rattle.sporadic_model.specs.declared.demands.Demand.{Demand}

-- Is x a task of the parts, and j an entry of it?
pub record HasRequest (parts : Parts) (x j : ℕ) : Type 0 where
  pub task : x < length parts.tasks.items
  pub entry : j < length (task_at (parts_seen parts) x).requests

-- Is x a task of the parts, and do its position and those of its entries fit the 32 bits of an id?
pub record TaskFitsIds (parts : Parts) (x : ℕ) : Type 0 where
  pub task : x < length parts.tasks.items
  pub id : x < 2 ^ 32
  pub entries : length (task_at (parts_seen parts) x).requests < 2 ^ 32

-- Has the table an entry q in its row x?
pub record HasEntry {A : Type 0} (rows : List (Vec A Global)) (x q : ℕ) : Type 0 where
  pub row : x < length rows
  pub entry : q < length (slice_index_or (map (λ row. row.items) rows) x [])

-- Is the set accepted, and do the rows say what each of its tasks may ask of each resource?
pub record HasDemands (set : SetDef) (rows : List (List Demand)) : Type 0 where
  pub accepted : IsAccepted set
  pub kept : rows ≡ demands_in set

-- Is it accepted, and do the rows list the tasks that use each resource?
pub record HasUsers (set : SetDef) (rows : List (List TaskId)) : Type 0 where
  pub accepted : IsAccepted set
  pub kept : AreUsers set rows

-- Has the set a task x and a resource q?
pub record HasTaskAndResource (set : SetDef) (x q : ℕ) : Type 0 where
  pub task : x < length set.tasks
  pub resource : q < length set.resources

-- Is this task x of an accepted set? The set's sizes and the task's numbers are in their ranges.
pub record IsTaskOf (set : SetDef) (x : ℕ) (answer : TaskDef) : Type 0 where
  pub seen : answer ≡ task_at set x
  pub accepted : IsAccepted set
  pub numbers : TaskNumbers set x
  pub sizes : SetSizes set

-- Is this resource q of a set whose sizes and homes are in their ranges?
pub record IsResourceOf (set : SetDef) (q : ℕ) (answer : ResourceDef) : Type 0 where
  pub seen : answer ≡ resource_at set q
  pub homes : AreHomes set
  pub sizes : SetSizes set

-- Is this what task x may ask of resource q? Its numbers and those of the task are in their ranges.
pub record IsDemandOf (set : SetDef) (x q : ℕ) (answer : Demand) : Type 0 where
  pub count : answer.count ≡ count_of set x q
  pub length : answer.length ≡ length_of set x q
  pub numbers : IsDemand set x answer
  pub task : TaskNumbers set x
