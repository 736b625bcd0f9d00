-- The rows that every protocol has, and those of direct blocking. In each, i is the analysed task.
use Rattle.std.specs.Prelude.{ℕ, ◌*◌, ◌==◌, ◌&&◌, nat_lt, List, [], ◌++◌, length}
use Rattle.number_laws.specs.Sums.{only_if}
use Rattle.sporadic_model.specs.SetDef.{SetDef, task_at}
use Rattle.sporadic_model.specs.Users.{count_of, length_of}
use Rattle.sporadic_model.specs.declared.ids.Protocol.{Protocol}
use Rattle.sporadic_model.specs.declared.ids.Protocol.TheVariants as protocol
use Rattle.blocking_columns.specs.declared.columns.Class.TheVariants.{Direct}
use Rattle.blocking_columns.specs.ColumnDef.{is_class}
use Rattle.blocking_columns.specs.Windows.{jobs_during, requests_during}
use Rattle.fragments.specs.Constraints.{ConstraintDef, counting, per, per_pair}

-- Requests: of q by x, in all classes together, at most as many as x makes while a job of i runs.
abbrev pub request_row : SetDef → ℕ → ℕ → ℕ → ConstraintDef
request_row set i x q =
    counting (λ c. (c.task == x) && (c.resource == q)) (λ bounds. requests_during set bounds (bounds i) x q)

-- Time: all requests of x together take no longer than x's jobs may execute while a job of i runs.
abbrev pub time_row : SetDef → ℕ → ℕ → ConstraintDef
time_row set i x = record {
  coefficient = λ c. only_if (c.task == x) (length_of set x c.resource);
  limit = λ bounds. (task_at set x).cost * jobs_during set bounds (bounds i) x;
}

-- Turns: if requests are served in the order of issue, each request of q by i waits for at most one request of x.
abbrev pub turn_row : SetDef → ℕ → ℕ → ℕ → ConstraintDef
turn_row set i x q =
    counting (λ c. ((c.task == x) && (c.resource == q)) && is_class Direct c.class) (λ bounds. count_of set i q)

-- Lower holders: if requests are granted by base priority, each request of q by i waits for at most one request of a lower task.
abbrev pub lower_holder_row : SetDef → ℕ → ℕ → ConstraintDef
lower_holder_row set i q =
    counting (λ c. ((c.resource == q) && is_class Direct c.class) && nat_lt i c.task) (λ bounds. count_of set i q)

-- The rows of every protocol: those of requests, for each task and resource, then those of time, for each task.
abbrev pub common_rows : SetDef → ℕ → List ConstraintDef
common_rows set i = per_pair (length set.tasks) (length set.resources) (request_row set i) ++ per (length set.tasks) (time_row set i)

-- The rows of direct blocking: turns under FMLP+, lower holders under MPCP, and none under DPCP.
abbrev pub own_rows : Protocol → SetDef → ℕ → List ConstraintDef
own_rows protocol.FmlpPlus set i = per_pair (length set.tasks) (length set.resources) (turn_row set i)
own_rows protocol.Mpcp set i = per (length set.resources) (lower_holder_row set i)
own_rows protocol.Dpcp set i = []
