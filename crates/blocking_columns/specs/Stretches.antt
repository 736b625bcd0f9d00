-- Where columns stand in their order, and the stretches of those of a task and of its requests of a resource.
use Rattle.std.specs.Prelude.{◌≡◌, ℕ, ◌+◌, ◌*◌, ◌<◌, ◌≤◌, List, length}
use Rattle.std.specs.List.{AllWithin}
use Rattle.std.specs.List.Sorted.{IsNonDecreasingBy}
use Rattle.sporadic_model.specs.SetDef.{SetDef}
use Rattle.blocking_columns.specs.declared.columns.Fragment.{Fragment}
use Rattle.blocking_columns.specs.ColumnDef.{AreKnown}

-- The number of task x and resource q in the order of columns, where there are at most 2 ^ 32 resources.
abbrev pub slot : ℕ → ℕ → ℕ
slot x q = x * 4294967296 + q

abbrev pub slot_of : Fragment → ℕ
slot_of c = slot c.task.0 c.resource.0

-- Do the columns stand in order of the task, then the resource?
abbrev pub AreInOrder : List Fragment → Type 0
AreInOrder columns = IsNonDecreasingBy slot_of columns

-- Are the columns of tasks and resources of the set, and do they stand in order?
pub record StandInOrder (set : SetDef) (columns : List Fragment) : Type 0 where
  pub known : AreKnown (length set.tasks) (length set.resources) columns
  pub order : AreInOrder columns

-- Do the columns of slot s and of later ones begin at this place?
pub record BeginsAt (s : ℕ) (columns : List Fragment) (place : ℕ) : Type 0 where
  pub within : place ≤ length columns
  pub before : AllWithin (λ c. slot_of c < s) columns 0 place
  pub behind : AllWithin (λ c. s ≤ slot_of c) columns place (length columns)

-- Are the columns of task x, or those of its requests of q, those from the place a to below b?
pub record IsTaskStretch (x : ℕ) (columns : List Fragment) (a b : ℕ) : Type 0 where
  pub from : BeginsAt (slot x 0) columns a
  pub to : BeginsAt (slot (x + 1) 0) columns b
  pub order : a ≤ b

pub record IsRequestStretch (x q : ℕ) (columns : List Fragment) (a b : ℕ) : Type 0 where
  pub from : BeginsAt (slot x q) columns a
  pub to : BeginsAt (slot x (q + 1)) columns b
  pub order : a ≤ b

-- Is the column at the place one of requests of q by task x, with q below m? Then those of x and q begin there, if those of x and some
-- resource k do, and k isn't above q.
pub record IsNextRequest (m x q : ℕ) (columns : List Fragment) (place : ℕ) : Type 0 where
  pub known : q < m
  pub within : place < length columns
  pub here : AllWithin (λ c. slot_of c ≡ slot x q) columns place (place + 1)
  pub further : (end : ℕ) → BeginsAt (slot x (q + 1)) columns end → place < end
  pub order : (k : ℕ) → BeginsAt (slot x k) columns place → k ≤ q
  pub begins : (k : ℕ) → BeginsAt (slot x k) columns place → BeginsAt (slot x q) columns place

-- Do the next task's columns begin at the place, if those of x and a resource up to m do?
abbrev pub ArePast : ℕ → ℕ → List Fragment → ℕ → Type 0
ArePast m x columns place = (k : ℕ) → k ≤ m → BeginsAt (slot x k) columns place → BeginsAt (slot (x + 1) 0) columns place
