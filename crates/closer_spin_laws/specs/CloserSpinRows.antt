-- The rows that the closer analysis of spin locks has, and its programs. In each, i is the analysed task and k a processor, counted
-- from 1.
--
-- One request of the lower tasks of i's processor is open at a job's release at most, and it is of one resource. It runs and preempts,
-- or it spins, for one request of k. So whatever resources are taken together, it pays for one request: one of these resources that is
-- spun for, or one of another that preempts.
use Rattle.std.specs.Prelude.{ℕ, ◌+◌, ◌==◌, ◌&&◌, ◌||◌, not, Bool, nat_lt, nat_le, List, ◌∷◌, ◌++◌, length, if◌then◌else◌}
use Rattle.number_laws.specs.Tests.{any_below, count_below}
use Rattle.program_form.specs.Program.{ProgramDef}
use Rattle.sporadic_model.specs.SetDef.{SetDef, task_at}
use Rattle.sporadic_model.specs.Users.{is_user}
use Rattle.program_sources.specs.Recurrence.{SourceDef}
use Rattle.blocking_columns.specs.declared.columns.Class.TheVariants as class
use Rattle.blocking_columns.specs.ColumnDef.{ColumnDef, is_class}
use Rattle.blocking_columns.specs.Columns.{have_one_processor}
use Rattle.fragments.specs.Constraints.{ConstraintDef, counting, per, per_pair}
use Rattle.direct_constraints.specs.Rows.{common_rows}
use Rattle.program_laws.specs.Programs.{program_with, source_with}
use Rattle.spin_charging.specs.SpinPrograms.{blocks_by_spinning, lower_request_row, is_from, is_used_below, spinning_row}
use Rattle.spin_charging.specs.SpinPrograms.{own_spinning_row, spin_columns, upper_requests}

-- Does a task of processor k use q?
abbrev pub is_used_on : SetDef → ℕ → ℕ → Bool
is_used_on set k q = any_below (length set.tasks) (λ x. ((task_at set x).processor == k) && is_user set q x)

-- May a lower task of i's processor spin for a request of q by a task of k, which is another processor?
abbrev pub is_spun_below : SetDef → ℕ → ℕ → ℕ → Bool
is_spun_below set i k q = (not (k == (task_at set i).processor) && is_used_on set k q) && is_used_below set i q

-- Is q used above: does i, or a higher task of i's processor, use it?
abbrev pub is_used_above : SetDef → ℕ → ℕ → Bool
is_used_above set i q = any_below (length set.tasks) (λ h. (nat_le h i && have_one_processor set h i) && is_user set q h)

-- May lower tasks spin for it there, and is it used above?
abbrev pub is_spun_above : SetDef → ℕ → ℕ → ℕ → Bool
is_spun_above set i k q = is_spun_below set i k q && is_used_above set i q

-- May only lower tasks spin for it there?
abbrev pub is_lone : SetDef → ℕ → ℕ → ℕ → Bool
is_lone set i k q = is_spun_below set i k q && not (is_used_above set i q)

-- Are so many resources too many for a row each that leaves it out? Such rows take long, and say little beside the others.
abbrev pub are_many : ℕ → Bool
are_many n = nat_lt 10 n

-- Are those many for which lower tasks may spin?
abbrev pub are_many_spun : SetDef → ℕ → ℕ → Bool
are_many_spun set i k = are_many (count_below (length set.resources) (is_spun_below set i k))

-- And are several of them lone, so that these have a row together?
abbrev pub leaves_lone_out : SetDef → ℕ → ℕ → Bool
leaves_lone_out set i k = are_many_spun set i k && nat_lt 1 (count_below (length set.resources) (is_lone set i k))

-- Is q one of these?
abbrev pub is_left_out : SetDef → ℕ → ℕ → ℕ → Bool
is_left_out set i k q = is_lone set i k q && leaves_lone_out set i k

-- Is it a column of requests of q from k? Or does it preempt by a request of another resource, where lower tasks may spin for q?
abbrev pub is_in_place : SetDef → ℕ → ℕ → ℕ → ColumnDef → Bool
is_in_place set i k q c =
    if is_class class.Preemption c.class then is_spun_below set i k q && not (c.resource == q) else is_from set k q c

-- Spinning: each request of q from i's processor spins for at most one request of k, of lower tasks at most one. Where that may be of q,
-- a lower request of another resource that preempts stands in its place. Lone resources that are left out have only a row together.
abbrev pub closer_spinning_row : SetDef → ℕ → ℕ → ℕ → ConstraintDef
closer_spinning_row set i k q =
    counting (λ c. not (is_left_out set i k q) && is_in_place set i k q c) (spinning_row set i k q).limit

-- Is it a column of requests from k of a resource that passes, or does it preempt by a request of another one?
abbrev pub is_of_slot : SetDef → ℕ → (ℕ → Bool) → ColumnDef → Bool
is_of_slot set k passes c =
    if is_class class.Preemption c.class then not (passes c.resource) else (((task_at set c.task).processor == k) && passes c.resource)

-- How many of the resources for which lower tasks may spin are used above?
abbrev pub used_above : SetDef → ℕ → ℕ → ℕ
used_above set i k = count_below (length set.resources) (is_spun_above set i k)

-- Several resources together: their requests by i and by higher tasks of its processor each spin for at most one request of k, and the
-- lower request adds one, of these resources or of another. Of one resource Spinning says this. Where fewer than `least` are used above,
-- another row says the same.
abbrev pub together_row : SetDef → ℕ → ℕ → ℕ → (ℕ → Bool) → ConstraintDef
together_row set i k least passes = counting
    (λ c. (nat_lt 1 (count_below (length set.resources) passes) && nat_le least (used_above set i k)) && is_of_slot set k passes c)
    (λ bounds. 1 + upper_requests set bounds i passes)

-- Lower spinning: all resources for which lower tasks may spin.
abbrev pub lower_spinning_row : SetDef → ℕ → ℕ → ConstraintDef
lower_spinning_row set i k = together_row set i k 1 (is_spun_below set i k)

-- Are several of them used above, and not many?
abbrev pub are_few_above : SetDef → ℕ → ℕ → Bool
are_few_above set i k = nat_lt 1 (used_above set i k) && not (are_many (used_above set i k))

-- Have all of them but q a row? If q is one of few that are used above, or if q is lone and they aren't many.
abbrev pub is_set_apart : SetDef → ℕ → ℕ → ℕ → Bool
is_set_apart set i k q = (is_spun_above set i k q && are_few_above set i k) || (is_lone set i k q && not (are_many_spun set i k))

-- Other lower spinning: all of them but q.
abbrev pub is_spun_beside : SetDef → ℕ → ℕ → ℕ → ℕ → Bool
is_spun_beside set i k q r = is_set_apart set i k q && (is_spun_below set i k r && not (r == q))

abbrev pub other_lower_spinning_row : SetDef → ℕ → ℕ → ℕ → ConstraintDef
other_lower_spinning_row set i k q = together_row set i k 0 (is_spun_beside set i k q)

-- Lone lower spinning with one: those for which only lower tasks may spin, and q, which is used above.
abbrev pub is_spun_with : SetDef → ℕ → ℕ → ℕ → ℕ → Bool
is_spun_with set i k q r = is_spun_above set i k q && ((r == q) || is_lone set i k r)

abbrev pub lone_spinning_with_row : SetDef → ℕ → ℕ → ℕ → ConstraintDef
lone_spinning_with_row set i k q = together_row set i k 3 (is_spun_with set i k q)

-- Lone lower spinning: those for which only lower tasks may spin. Whichever of them the lower request is of, it spins for one request of k.
abbrev pub lone_spinning_row : SetDef → ℕ → ℕ → ConstraintDef
lone_spinning_row set i k = together_row set i k 0 (is_lone set i k)

-- The rows of each processor and resource, and those of several resources together.
abbrev pub closer_spinning_rows : SetDef → ℕ → List ConstraintDef
closer_spinning_rows set i = per_pair set.processors (length set.resources) (λ k q. closer_spinning_row set i (k + 1) q)

abbrev pub own_spinning_rows : SetDef → ℕ → List ConstraintDef
own_spinning_rows set i = per_pair set.processors (length set.resources) (λ k q. own_spinning_row set i (k + 1) q)

abbrev pub together_rows : SetDef → ℕ → List ConstraintDef
together_rows set i = per set.processors (λ k. lower_spinning_row set i (k + 1))
    ++ (per_pair set.processors (length set.resources) (λ k q. other_lower_spinning_row set i (k + 1) q)
    ++ per_pair set.processors (length set.resources) (λ k q. lone_spinning_with_row set i (k + 1) q))

abbrev pub lone_spinning_rows : SetDef → ℕ → List ConstraintDef
lone_spinning_rows set i = per set.processors (λ k. lone_spinning_row set i (k + 1))

-- The rows of task i: requests, time, lower requests, own spinning, lower spinning, other lower spinning, lone lower spinning with one,
-- lone lower spinning, spinning.
abbrev pub spin_closer_rows : SetDef → ℕ → List ConstraintDef
spin_closer_rows set i = common_rows set i ++ (lower_request_row
    ∷ (own_spinning_rows set i ++ (together_rows set i ++ (lone_spinning_rows set i ++ closer_spinning_rows set i))))

-- The source of these programs for a set: requests may block as under spin locks, and interference is counted as there.
abbrev pub spin_closer_source : SetDef → SourceDef
spin_closer_source set = source_with set (blocks_by_spinning set) (spin_closer_rows set) (λ h. (task_at set h).cost)

-- The program of task i at bounds, as contracts name it.
abbrev pub spin_closer_program : SetDef → ℕ → List ℕ → ProgramDef
spin_closer_program set i bounds = program_with set (spin_columns set i) (spin_closer_rows set i) bounds
