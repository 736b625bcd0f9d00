-- How the programs of a round are shared among threads, and when a thread goes on.
use Rattle.std.specs.Prelude.{◌≡◌, ℕ, ◌+◌, ◌*◌, ◌/◌, ◌<◌, ◌≤◌, ◌==◌, nat_lt, if◌then◌else◌, List, [], ◌∷◌, length, max, min, is_none, Result, Ok, Err}
use Rattle.number_laws.specs.Sums.{sum_below, flag}
use Rattle.number_laws.specs.Tests.{count_below}
use Rattle.sporadic_model.specs.SetDef.{SetDef}
use Rattle.sporadic_model.specs.Users.{count_of}
use Rattle.program_sources.specs.Recurrence.{SourceDef, response_with}
use Rattle.program_sources.specs.Fitting.{latest_of}
use Rattle.simplex.specs.declared.SolveStop.{SolveStop}
use Rattle.response_fixpoint.specs.declared.plan.Planned.{Planned}
use Rattle.response_fixpoint.specs.declared.sharing.Share.{Share}
use Rattle.response_fixpoint.specs.declared.sharing.TheConstants.{WORTH_A_THREAD}
use Rattle.response_fixpoint.specs.declared.task_run.Solution.{Solution}

-- Is it the share of one of this many threads?
abbrev pub IsShare : Share → Type 0
IsShare share = share.thread < share.threads

-- Is the program of this number in the share? The share has each `threads`-th program, from number `thread` on.
abbrev pub IsShared : Share → ℕ → Type 0
IsShared share number = (k : ℕ) × (number ≡ share.thread + k * share.threads)

-- How many entries of requests does a task have?
abbrev pub entries_at : SetDef → ℕ → ℕ
entries_at set x = count_below (length set.resources) (λ q. nat_lt 0 (count_of set x q))

-- And all tasks together?
abbrev pub entries_in : SetDef → ℕ
entries_in set = sum_below (length set.tasks) (entries_at set)

-- How many threads are worth starting for the first round, for a set of this many tasks and entries? Each program has about as many
-- rows as there are entries, and its run makes about as many exchanges. If there is any entry, two threads or more are worth it.
abbrev pub worth_of : ℕ → ℕ → ℕ
worth_of entries tasks = if entries == 0 then 0 else max (entries * entries * tasks / WORTH_A_THREAD) 2

-- How many programs of a plan have no solution yet?
abbrev pub due_in : List Planned → ℕ
due_in [] = 0
due_in (planned ∷ plan) = flag (is_none planned.ahead) + due_in plan

-- How much work are the runs of a plan likely to be together?
abbrev pub work_in : List Planned → ℕ
work_in [] = 0
work_in (planned ∷ plan) = planned.work + work_in plan

-- How many threads are started for this many programs, where so many threads are worth it, on a machine of so many processors? At most
-- one for each program, and at most as many as processors, or two. One thread alone counts as none.
abbrev pub threads_on : ℕ → ℕ → ℕ → ℕ
threads_on processors worth programs = if nat_lt (min worth programs) 2 then 0 else min (max processors 2) (min worth programs)

-- Is this the number of threads that is started on a machine of some number of processors?
pub record AreThreads (worth programs threads : ℕ) : Type 0 where
  pub processors : ℕ
  pub started : threads ≡ threads_on processors worth programs
  pub worth_it : threads ≤ worth
  pub one_each : threads ≤ programs

-- Do the rounds go on behind task i? They do if its program's value at the bounds r is at most the latest bound.
abbrev pub GoesOn : Result Solution SolveStop → SourceDef → List ℕ → ℕ → Type 0
GoesOn (Ok solution) f r i = response_with f r i solution.blocking ≤ latest_of f i
GoesOn (Err stop) f r i = ⊥
