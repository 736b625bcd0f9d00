-- Who uses a resource, and the ceilings that follow from it.
use Rattle.std.specs.Prelude.{ℕ, ◌==◌, ◌&&◌, not, Bool, nat_lt, List, length, Option, find, position}
use Rattle.std.specs.List.{range_with_len, filter}
use Rattle.std.specs.Option.{option_or, option_map_or}
use Rattle.std.specs.Str.{bytes_eq}
use Rattle.sporadic_model.specs.SetDef.{SetDef, RequestDef, task_at, resource_at}

-- The numbers below n, in order.
abbrev pub numbers : ℕ → List ℕ
numbers n = range_with_len 0 n

-- The entry of task x for resource q, where it has one.
abbrev pub entry_of : SetDef → ℕ → ℕ → Option RequestDef
entry_of set x q = find (λ e. bytes_eq e.resource (resource_at set q).name) (task_at set x).requests

-- How often may a job of task x request resource q? 0 without an entry.
abbrev pub count_of : SetDef → ℕ → ℕ → ℕ
count_of set x q = option_map_or (λ e. e.count) (entry_of set x q) 0

-- For how many ticks may a request of resource q by task x last? 0 without an entry.
abbrev pub length_of : SetDef → ℕ → ℕ → ℕ
length_of set x q = option_map_or (λ e. e.length) (entry_of set x q) 0

-- Is task x a user of resource q?
abbrev pub is_user : SetDef → ℕ → ℕ → Bool
is_user set q x = nat_lt 0 (count_of set x q)

-- Is task x a user of resource q that isn't on processor k?
abbrev pub is_remote_user : SetDef → ℕ → ℕ → ℕ → Bool
is_remote_user set q k x = is_user set q x && not ((task_at set x).processor == k)

-- The resources that task x uses, in order.
abbrev pub used_by : SetDef → ℕ → List ℕ
used_by set x = filter (λ q. is_user set q x) (numbers (length set.resources))

-- The tasks that use resource q, from the highest to the lowest.
abbrev pub users_of : SetDef → ℕ → List ℕ
users_of set q = filter (is_user set q) (numbers (length set.tasks))

-- The ceiling of resource q: its highest user.
abbrev pub ceiling_of : SetDef → ℕ → Option ℕ
ceiling_of set q = find (is_user set q) (numbers (length set.tasks))

-- The ceiling of resource q as processor k sees it: its highest user that isn't on k, and its highest
-- user where all are on k.
abbrev pub remote_ceiling_of : SetDef → ℕ → ℕ → Option ℕ
remote_ceiling_of set q k = option_or (find (is_remote_user set q k) (numbers (length set.tasks))) (ceiling_of set q)

-- The task, the resource, of this name.
abbrev pub task_with_name : SetDef → List ℕ → Option ℕ
task_with_name set name = position (λ t. bytes_eq t.name name) set.tasks

abbrev pub resource_with_name : SetDef → List ℕ → Option ℕ
resource_with_name set name = position (λ r. bytes_eq r.name name) set.resources
