-- Which task sets are accepted: those whose names, numbers, entries and homes are all in their ranges. Which sets are well formed, and
-- which upper limits an accepted set keeps besides. And what it means to be the highest user of a resource.
use Rattle.std.specs.Prelude.{◌≡◌, ◌≢◌, ℕ, ◌+◌, ◌<◌, ◌≤◌, ◌^◌, length, Some, IsTrue, ◌⊎◌}
use Rattle.sporadic_model.specs.SetDef.{SetDef, RequestDef, task_at, resource_at, request_at, request_count}
use Rattle.sporadic_model.specs.Names.{is_name}
use Rattle.sporadic_model.specs.Users.{count_of}
use Rattle.sporadic_model.specs.declared.limits.TheConstants.{MOST_PROCESSORS, MOST_TASKS, MOST_RESOURCES}
use Rattle.sporadic_model.specs.declared.limits.TheConstants.{MOST_REQUESTS, MOST_TICKS, MOST_COUNT}

-- The sizes of the set are in their ranges.
pub record SetSizes (set : SetDef) : Type 0 where
  pub processors_from : 1 ≤ set.processors
  pub processors_to : set.processors ≤ MOST_PROCESSORS
  pub tasks_from : 1 ≤ length set.tasks
  pub tasks_to : length set.tasks ≤ MOST_TASKS
  pub resources_to : length set.resources ≤ MOST_RESOURCES
  pub requests_to : request_count set ≤ MOST_REQUESTS

-- The numbers of task x are in their ranges. Its processor is one of the set. Its local limit, cost, deadline and period never fall in this
-- order, and are from 1 tick to 10^9. A job that is released as late as the jitter allows has time for its cost before its deadline.
pub record TaskNumbers (set : SetDef) (x : ℕ) : Type 0 where
  pub processor_from : 1 ≤ (task_at set x).processor
  pub processor_to : (task_at set x).processor ≤ set.processors
  pub local_from : 1 ≤ (task_at set x).local
  pub local_to : (task_at set x).local ≤ (task_at set x).cost
  pub cost_from : 1 ≤ (task_at set x).cost
  pub cost_to : (task_at set x).cost ≤ (task_at set x).deadline
  pub jitter_to : (task_at set x).cost + (task_at set x).jitter ≤ (task_at set x).deadline
  pub deadline_to : (task_at set x).deadline ≤ (task_at set x).period
  pub period_to : (task_at set x).period ≤ MOST_TICKS

-- The numbers of an entry of task x are in their ranges: from 1 request to 1000, and a length from 1
-- tick to below the task's cost.
pub record EntryNumbers (set : SetDef) (x : ℕ) (entry : RequestDef) : Type 0 where
  pub count_from : 1 ≤ entry.count
  pub count_to : entry.count ≤ MOST_COUNT
  pub length_from : 1 ≤ entry.length
  pub length_to : entry.length < (task_at set x).cost

-- Entry j of task x has its numbers in their ranges.
abbrev pub RequestNumbers : SetDef → ℕ → ℕ → Type 0
RequestNumbers set x j = EntryNumbers set x (request_at set x j)

-- Every resource and every task of the set has a name of the right form. No two resources have the same name, and no two tasks.
pub record AreNamed (set : SetDef) : Type 0 where
  pub resource_names : (q : ℕ) → q < length set.resources → IsTrue (is_name (resource_at set q).name)
  pub task_names : (x : ℕ) → x < length set.tasks → IsTrue (is_name (task_at set x).name)
  pub resources_apart : (p q : ℕ) → p < q → q < length set.resources → (resource_at set p).name ≢ (resource_at set q).name
  pub tasks_apart : (x y : ℕ) → x < y → y < length set.tasks → (task_at set x).name ≢ (task_at set y).name

-- Each entry of task x names a resource of the set, and no two of its entries name the same one.
pub record AreEntries (set : SetDef) (x : ℕ) : Type 0 where
  pub known : (j : ℕ) → j < length (task_at set x).requests
      → (q : ℕ) × (q < length set.resources) × ((resource_at set q).name ≡ (request_at set x j).resource)
  pub apart : (i j : ℕ) → i < j → j < length (task_at set x).requests → (request_at set x i).resource ≢ (request_at set x j).resource

-- Each home that is given is a processor of the set.
pub record AreHomes (set : SetDef) : Type 0 where
  pub homes_from : (q k : ℕ) → q < length set.resources → (resource_at set q).home ≡ Some k → 1 ≤ k
  pub homes_to : (q k : ℕ) → q < length set.resources → (resource_at set q).home ≡ Some k → k ≤ set.processors

-- The sizes, names, numbers, entries and homes of the set are all in their ranges.
pub record KeepsRanges (set : SetDef) : Type 0 where
  pub sizes : SetSizes set
  pub names : AreNamed set
  pub numbers : (x : ℕ) → x < length set.tasks → TaskNumbers set x
  pub entries : (x : ℕ) → x < length set.tasks → AreEntries set x
  pub requests : (x j : ℕ) → x < length set.tasks → j < length (task_at set x).requests → RequestNumbers set x j
  pub homes : AreHomes set

-- Is the set accepted? It is if all of it is in its range.
unfoldable pub IsAccepted : SetDef → Type 0
IsAccepted set = KeepsRanges set

-- The numbers of task x are in order, however great they are. The local limit is at least 1 tick and at most the cost. Cost and jitter
-- together are at most the deadline, and the deadline is at most the period.
pub record TaskOrder (set : SetDef) (x : ℕ) : Type 0 where
  pub processor_from : 1 ≤ (task_at set x).processor
  pub processor_to : (task_at set x).processor ≤ set.processors
  pub local_from : 1 ≤ (task_at set x).local
  pub local_to : (task_at set x).local ≤ (task_at set x).cost
  pub jitter_to : (task_at set x).cost + (task_at set x).jitter ≤ (task_at set x).deadline
  pub deadline_to : (task_at set x).deadline ≤ (task_at set x).period

-- The numbers of an entry of task x are in order too: at least 1 request, and a length of at least 1 tick that is below the task's cost.
pub record EntryOrder (set : SetDef) (x : ℕ) (entry : RequestDef) : Type 0 where
  pub count_from : 1 ≤ entry.count
  pub length_from : 1 ≤ entry.length
  pub length_to : entry.length < (task_at set x).cost

-- Is the set well formed? It has a processor and a task. Its names are of the right form, and no two are the same. Its entries name its
-- resources, its homes are processors of it, and its numbers are in order. No number has an upper limit of its own here.
pub record IsFormed (set : SetDef) : Type 0 where
  pub processors : 1 ≤ set.processors
  pub tasks : 1 ≤ length set.tasks
  pub names : AreNamed set
  pub numbers : (x : ℕ) → x < length set.tasks → TaskOrder set x
  pub entries : (x : ℕ) → x < length set.tasks → AreEntries set x
  pub requests : (x j : ℕ) → x < length set.tasks → j < length (task_at set x).requests → EntryOrder set x (request_at set x j)
  pub homes : AreHomes set

-- Are the sizes of the set, its periods and the counts of its entries within the upper limits?
pub record IsWithinLimits (set : SetDef) : Type 0 where
  pub processors : set.processors ≤ MOST_PROCESSORS
  pub tasks : length set.tasks ≤ MOST_TASKS
  pub resources : length set.resources ≤ MOST_RESOURCES
  pub requests : request_count set ≤ MOST_REQUESTS
  pub periods : (x : ℕ) → x < length set.tasks → (task_at set x).period ≤ MOST_TICKS
  pub counts : (x j : ℕ) → x < length set.tasks → j < length (task_at set x).requests → (request_at set x j).count ≤ MOST_COUNT

-- Do the positions of the set's resources, tasks and entries fit the 32 bits of an id?
pub record FitsIds (set : SetDef) : Type 0 where
  pub resources : length set.resources < 2 ^ 32
  pub tasks : length set.tasks < 2 ^ 32
  pub entries : (x : ℕ) → x < length set.tasks → length (task_at set x).requests < 2 ^ 32

-- Task x is the highest user of resource q: it is a user, and no higher task is one.
pub record IsHighestUser (set : SetDef) (q x : ℕ) : Type 0 where
  pub task : x < length set.tasks
  pub user : 0 < count_of set x q
  pub highest : (y : ℕ) → y < x → count_of set y q ≡ 0

-- Task x is the highest user of resource q that isn't on processor k.
pub record IsHighestRemoteUser (set : SetDef) (q k x : ℕ) : Type 0 where
  pub task : x < length set.tasks
  pub user : 0 < count_of set x q
  pub remote : (task_at set x).processor ≢ k
  pub highest : (y : ℕ) → y < x → (task_at set y).processor ≢ k → count_of set y q ≡ 0

-- No task uses resource q.
abbrev pub HasNoUser : SetDef → ℕ → Type 0
HasNoUser set q = (x : ℕ) → x < length set.tasks → count_of set x q ≡ 0

-- Each user of resource q is on processor k.
abbrev pub HasNoRemoteUser : SetDef → ℕ → ℕ → Type 0
HasNoRemoteUser set q k = (x : ℕ) → x < length set.tasks → (task_at set x).processor ≢ k → count_of set x q ≡ 0

-- Task x is the highest user of resource q that isn't on processor k. If there is no such user, it is the highest user.
abbrev pub IsBoost : SetDef → ℕ → ℕ → ℕ → Type 0
IsBoost set q k x = IsHighestRemoteUser set q k x ⊎ (HasNoRemoteUser set q k × IsHighestUser set q x)
