-- The columns of a task's blocking program: which requests of other tasks may block a job of it, and how.
use Rattle.std.specs.Prelude.{◌≡◌, ℕ, ◌==◌, ◌&&◌, ◌||◌, not, Bool, true, false, nat_lt, nat_le, List, length}
use Rattle.std.specs.List.{filter}
use Rattle.number_laws.specs.Sums.{collect_below}
use Rattle.number_laws.specs.Tests.{any_below}
use Rattle.sporadic_model.specs.SetDef.{SetDef, task_at, is_higher_local}
use Rattle.sporadic_model.specs.Users.{is_user}
use Rattle.sporadic_model.specs.declared.ids.Protocol.{Protocol}
use Rattle.sporadic_model.specs.declared.ids.Protocol.TheVariants as protocol
use Rattle.blocking_columns.specs.declared.columns.Class.{Class}
use Rattle.blocking_columns.specs.declared.columns.Class.TheVariants as class
use Rattle.sporadic_model.specs.Homes.{home_in}
use Rattle.blocking_columns.specs.Ceilings.{ceiling_rank, remote_ceiling_rank}
use Rattle.blocking_columns.specs.ColumnDef.{ColumnDef, is_class, classes_of, all_columns}

-- Do two tasks share a processor?
abbrev pub have_one_processor : SetDef → ℕ → ℕ → Bool
have_one_processor set x y = (task_at set x).processor == (task_at set y).processor

-- Is x a lower task on i's processor?
abbrev pub is_lower_local : SetDef → ℕ → ℕ → Bool
is_lower_local set i x = nat_lt i x && have_one_processor set x i

-- While a holder of r is ready on processor k, may a holder of q run there? Under MPCP where q's ceiling, as k sees it, is
-- no lower than r's; under FMLP+ in any case. Under DPCP requests do not run on their task's processor.
abbrev pub may_run_before : Protocol → SetDef → ℕ → ℕ → ℕ → Bool
may_run_before protocol.Mpcp set k q r = nat_le (remote_ceiling_rank set q k) (remote_ceiling_rank set r k)
may_run_before protocol.FmlpPlus set k q r = true
may_run_before protocol.Dpcp set k q r = false

-- Is task y with resource r a path from i to requests of q by x: may i wait for y, which waits for its processor while x
-- holds q there?
abbrev pub is_path : Protocol → SetDef → ℕ → ℕ → ℕ → ℕ → ℕ → Bool
is_path p set i x q y r = (have_one_processor set y x && (not (y == x) && not (y == i)))
    && ((not (r == q) && (is_user set r i && is_user set r y)) && may_run_before p set (task_at set x).processor q r)

abbrev pub has_path : Protocol → SetDef → ℕ → ℕ → ℕ → Bool
has_path p set i x q = any_below (length set.tasks) (λ y. any_below (length set.resources) (λ r. is_path p set i x q y r))

-- Does i request another resource of q's home?
abbrev pub requests_beside : SetDef → ℕ → ℕ → Bool
requests_beside set i q = any_below (length set.resources) (λ r. not (r == q) && (is_user set r i && (home_in set r == home_in set q)))

-- Under MPCP and FMLP+, which run requests on their task's processor: may requests of q by x block i in this way?
-- Directly where i requests q, indirectly where there is a path, and by preemption where x is a lower task beside i.
abbrev pub blocks_by_sharing : Protocol → SetDef → ℕ → ℕ → ℕ → Class → Bool
blocks_by_sharing p set i x q class.Direct = is_user set q i
blocks_by_sharing p set i x q class.Indirect = has_path p set i x q
blocks_by_sharing p set i x q class.Preemption = is_lower_local set i x

-- Where requests run on their resource's home, may those of q block i in this way? Directly where i requests q, indirectly where i
-- requests another resource of q's home, and by preemption where q's home is i's processor.
abbrev pub blocks_at_home : SetDef → ℕ → ℕ → Class → Bool
blocks_at_home set i q class.Direct = is_user set q i
blocks_at_home set i q class.Indirect = requests_beside set i q
blocks_at_home set i q class.Preemption = home_in set q == (task_at set i).processor

-- May requests of q by x block i in this way? Under DPCP those of a lower task block indirectly only where q's ceiling is no lower
-- than i. Under MPCP and FMLP+ those of higher tasks beside i never block.
abbrev pub may_block : Protocol → SetDef → ℕ → ℕ → ℕ → Class → Bool
may_block protocol.Dpcp set i x q k =
    (not (is_class class.Indirect k && nat_lt i x) || nat_le (ceiling_rank set q) i) && blocks_at_home set i q k
may_block p set i x q k = not (is_higher_local set i x) && blocks_by_sharing p set i x q k

-- Is it a column of task i: another task's requests of a resource that it uses, which may block i in this way?
abbrev pub is_column_by : (ℕ → ℕ → Class → Bool) → SetDef → ℕ → ColumnDef → Bool
is_column_by blocks set i c = (not (c.task == i) && is_user set c.resource c.task) && blocks c.task c.resource c.class

-- The columns of task i, in order of the task, then the resource, then the class. They do not depend on any bounds.
abbrev pub columns_by : (ℕ → ℕ → Class → Bool) → SetDef → ℕ → List ColumnDef
columns_by blocks set i = filter (is_column_by blocks set i) (all_columns (length set.tasks) (length set.resources))

-- The same of the three protocols, as contracts name them.
abbrev pub is_column : Protocol → SetDef → ℕ → ColumnDef → Bool
is_column p set i = is_column_by (may_block p set i) set i

abbrev pub columns_of : Protocol → SetDef → ℕ → List ColumnDef
columns_of p set i = columns_by (may_block p set i) set i

-- The columns of a set that pass any test, in the same order.
abbrev pub columns_where : (ColumnDef → Bool) → SetDef → List ColumnDef
columns_where test set = filter test (all_columns (length set.tasks) (length set.resources))

-- Those of them that are requests by task x.
abbrev pub requests_where : (ColumnDef → Bool) → SetDef → ℕ → List ColumnDef
requests_where test set x = filter test (collect_below (length set.resources) (λ q. classes_of x q))

-- Are the columns that pass requests of resources that their tasks use?
abbrev pub AreRequests : (ColumnDef → Bool) → SetDef → Type 0
AreRequests test set = (c : ColumnDef) → test c ≡ true → is_user set c.resource c.task ≡ true

-- And are they requests of other tasks than i?
abbrev pub AreOfOthers : (ColumnDef → Bool) → ℕ → Type 0
AreOfOthers test i = (c : ColumnDef) → test c ≡ true → (c.task == i) ≡ false
