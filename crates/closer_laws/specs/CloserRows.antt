-- The rows that the closer analysis of FMLP+ has beside those of FMLP+, and its programs. In each, i is the analysed task.
use Rattle.std.specs.Prelude.{ℕ, ◌+◌, ◌==◌, ◌&&◌, not, Bool, List, [], ◌∷◌, ◌++◌, length}
use Rattle.number_laws.specs.Sums.{sum_below, only_if}
use Rattle.number_laws.specs.Tests.{any_below}
use Rattle.program_form.specs.Program.{ProgramDef}
use Rattle.sporadic_model.specs.SetDef.{SetDef}
use Rattle.sporadic_model.specs.Users.{count_of, is_user}
use Rattle.sporadic_model.specs.declared.ids.Protocol.TheVariants as protocol
use Rattle.program_sources.specs.Recurrence.{SourceDef}
use Rattle.blocking_columns.specs.declared.columns.Class.TheVariants.{Direct, Indirect, Preemption}
use Rattle.blocking_columns.specs.ColumnDef.{is_class}
use Rattle.blocking_columns.specs.Columns.{have_one_processor, is_lower_local, may_block, columns_of}
use Rattle.fragments.specs.Constraints.{ConstraintDef, counting, per, per_where, per_pair}
use Rattle.indirect_constraints.specs.Rows.{is_beside}
use Rattle.program_laws.specs.Programs.{program_with, source_with, rows_of, interfering_cost}

-- Is q shared out from x's processor: does a task of another processor use it?
abbrev pub is_shared_out : SetDef → ℕ → ℕ → Bool
is_shared_out set x q = any_below (length set.tasks) (λ y. is_user set q y && not (have_one_processor set y x))

-- How many requests that i makes are summed, of those resources that pass?
abbrev pub requests_where : SetDef → ℕ → (ℕ → Bool) → ℕ
requests_where set i passes = sum_below (length set.resources) (λ q. only_if (passes q) (count_of set i q))

-- May i wait for q while a task of x's processor holds it?
abbrev pub is_held_there : SetDef → ℕ → ℕ → ℕ → Bool
is_held_there set i x q = is_shared_out set i q
    && any_below (length set.tasks) (λ y. is_user set q y && (have_one_processor set y x && not (y == i)))

-- May it do so while another task than x holds it, on x's processor?
abbrev pub is_held_beside : SetDef → ℕ → ℕ → ℕ → Bool
is_held_beside set i x q = is_shared_out set i q
    && any_below (length set.tasks) (λ y. is_user set q y && (is_beside set x y && not (y == i)))

-- Holders: each request of i that a task of x's processor may hold up waits for at most one of x, of whatever resource.
abbrev pub holder_row : SetDef → ℕ → ℕ → ConstraintDef
holder_row set i x = counting (λ c. (c.task == x) && not (is_class Preemption c.class)) (λ bounds. requests_where set i (is_held_there set i x))

-- Other holders: each request of i that another task of x's processor may hold up, of another resource than q, waits for at most one of q
-- by x.
abbrev pub other_holder_row : SetDef → ℕ → ℕ → ℕ → ConstraintDef
other_holder_row set i x q = counting (λ c. ((c.task == x) && (c.resource == q)) && is_class Indirect c.class)
    (λ bounds. requests_where set i (λ r. not (r == q) && is_held_beside set i x r))

-- Lower tasks: from its release on and behind each of its requests that is shared out, a job of i is blocked by at most one request of x,
-- in whatever way.
abbrev pub lower_row : SetDef → ℕ → ℕ → ConstraintDef
lower_row set i x = counting (λ c. c.task == x) (λ bounds. 1 + requests_where set i (is_shared_out set i))

-- Local preemption: from its release on and behind each of its requests that is shared out, it is preempted by at most one request of the
-- resources that only its processor uses, of whatever task.
abbrev pub local_preemption_row : SetDef → ℕ → ConstraintDef
local_preemption_row set i = counting (λ c. is_class Preemption c.class && not (is_shared_out set i c.resource))
    (λ bounds. 1 + requests_where set i (is_shared_out set i))

-- Local waits: a job never waits for a resource that only its processor uses.
abbrev pub local_wait_row : SetDef → ℕ → ConstraintDef
local_wait_row set i = counting (λ c. is_class Direct c.class && not (is_shared_out set i c.resource)) (λ bounds. 0)

-- Local runners: a request of a resource that only the requesting task's processor uses never runs before what i waits for.
abbrev pub local_runner_row : SetDef → ℕ → ConstraintDef
local_runner_row set i = counting (λ c. is_class Indirect c.class && not (is_shared_out set c.task c.resource)) (λ bounds. 0)

-- All of these, in their order.
abbrev pub closer_rows : SetDef → ℕ → List ConstraintDef
closer_rows set i = per (length set.tasks) (holder_row set i)
    ++ (per_pair (length set.tasks) (length set.resources) (other_holder_row set i)
    ++ (per_where (is_lower_local set i) (length set.tasks) (lower_row set i)
    ++ (local_preemption_row set i ∷ local_wait_row set i ∷ local_runner_row set i ∷ [])))

-- The rows of a program: those of FMLP+, then these.
abbrev pub fmlp_closer_rows : SetDef → ℕ → List ConstraintDef
fmlp_closer_rows set i = rows_of protocol.FmlpPlus set i ++ closer_rows set i

-- The source of these programs for a set: requests may block as under FMLP+, and interference is counted as there.
abbrev pub fmlp_closer_source : SetDef → SourceDef
fmlp_closer_source set = source_with set (may_block protocol.FmlpPlus set) (fmlp_closer_rows set) (interfering_cost protocol.FmlpPlus set)

-- The program of task i at bounds, as contracts name it.
abbrev pub fmlp_closer_program : SetDef → ℕ → List ℕ → ProgramDef
fmlp_closer_program set i bounds = program_with set (columns_of protocol.FmlpPlus set i) (fmlp_closer_rows set i) bounds
