-- What is counted of each job while its schedule is judged.
use Rattle.std.specs.Prelude.{◌≡◌, ℕ, ◌+◌, ◌<◌, ◌≤◌, Bool, true, false, List, length, slice_index_or}
use Rattle.number_laws.specs.Sums.{only_if}
use Rattle.sporadic_model.specs.declared.limits.TheConstants.{MOST_TICKS}
use Rattle.sporadic_model.specs.SetDef.{SetDef}
use Rattle.schedule_model.specs.RowDef.{RunDef, Trace, row_in}
use Rattle.schedule_model.specs.Fitting.{RowsDef}
use Rattle.schedule_model.specs.declared.rule.Rule.{Rule}
use Rattle.schedule_model.specs.Activity.{is_active}
use Rattle.schedule_model.specs.BlockedTicks.{is_blocked}
use Rattle.schedule_model.specs.Measures.{has_finished, finish_of, blocking_of}
use Rattle.phase_machine.specs.MachineDef.{MachineDef, under}
use Rattle.trace_walk.specs.LawfulRow.{IsAtLawfulRow}
use Rattle.trace_conform.specs.declared.counts.JobCount.{JobCount}

-- Nothing counted.
abbrev pub no_count : JobCount
no_count = record { blocked = 0; end = 0 }

-- The count of job j.
abbrev pub count_at : List JobCount → ℕ → JobCount
count_at counts j = slice_index_or counts j no_count

-- The count of a job after n ticks from tick t on. The job is active at each of them, and blocked at all of them or at none.
abbrev pub counted_on : Bool → ℕ → ℕ → JobCount → JobCount
counted_on blocked t n c = record { blocked = c.blocked + only_if blocked n; end = t + n }

-- The count of active job j after n ticks from the machine's tick on, in these runs.
abbrev pub counted_at : (Trace → ℕ → ℕ → Bool) → MachineDef → List RunDef → ℕ → ℕ → JobCount → JobCount
counted_at interferes m runs j n c = counted_on (is_blocked interferes (under m (row_in runs)) m.tick j) m.tick n c

-- Can n ticks like the one at the machine's position be counted for job j? The machine's set suits the protocol, its row keeps the rules,
-- and the count has room.
pub record CanCountJob (suiting : SetDef → Type 0) (keeps : Rule → Trace → ℕ → Type 0) (rows : RowsDef) (i : ℕ) (m : MachineDef) (j n : ℕ)
    (count : JobCount) : Type 0
  where
    pub suits : suiting m.list.set
    pub row : IsAtLawfulRow keeps rows i m
    pub listed : j < length m.list.jobs
    pub room : count.blocked + n ≤ MOST_TICKS

-- Can they be counted for job j in a list of counts, with one for each job?
pub record CanCountIn (suiting : SetDef → Type 0) (keeps : Rule → Trace → ℕ → Type 0) (rows : RowsDef) (i : ℕ) (m : MachineDef) (j n : ℕ)
    (counts : List JobCount) : Type 0
  where
    pub job : CanCountJob suiting keeps rows i m j n (count_at counts j)
    pub size : length counts ≡ length m.list.jobs

-- Can they be counted for all jobs? There is a count for each, and each has room.
pub record CanCountTicks (suiting : SetDef → Type 0) (keeps : Rule → Trace → ℕ → Type 0) (rows : RowsDef) (i : ℕ) (m : MachineDef) (n : ℕ)
    (counts : List JobCount) : Type 0
  where
    pub suits : suiting m.list.set
    pub row : IsAtLawfulRow keeps rows i m
    pub size : length counts ≡ length m.list.jobs
    pub room : (j : ℕ) → j < length m.list.jobs → (count_at counts j).blocked + n ≤ MOST_TICKS

-- Are they counted for the active job j, and for no other?
pub record CountsJob (interferes : Trace → ℕ → ℕ → Bool) (m : MachineDef) (runs : List RunDef) (j n : ℕ) (before after : List JobCount) : Type 0 where
  pub size : length after ≡ length before
  pub own : count_at after j ≡ counted_at interferes m runs j n (count_at before j)
  pub others : (k : ℕ) → (k ≡ j → ⊥) → count_at after k ≡ count_at before k

-- Are the n ticks from tick t on counted for job j like the first of them, from the one count to the other? They are counted if the job is
-- active there, and not if it isn't.
pub record CountsTicks (interferes : Trace → ℕ → ℕ → Bool) (w : Trace) (t n j : ℕ) (before after : JobCount) : Type 0 where
  pub active : is_active w t j ≡ true → after ≡ counted_on (is_blocked interferes w t j) t n before
  pub other : is_active w t j ≡ false → after ≡ before

-- Is this so for each job?
pub record AddsTicks (interferes : Trace → ℕ → ℕ → Bool) (w : Trace) (t n : ℕ) (before after : List JobCount) : Type 0 where
  pub size : length after ≡ length before
  pub each : (j : ℕ) → CountsTicks interferes w t n j (count_at before j) (count_at after j)

-- Are these the counts of n rows: at how many ticks each job was blocked, and when it finished, if it did?
pub record AreCounts (interferes : Trace → ℕ → ℕ → Bool) (w : Trace) (n : ℕ) (counts : List JobCount) : Type 0 where
  pub size : length counts ≡ length w.jobs
  pub blocked : (j : ℕ) → j < length w.jobs → (count_at counts j).blocked ≡ blocking_of interferes w n j
  pub end : (j : ℕ) → j < length w.jobs → has_finished w n j ≡ true → (count_at counts j).end ≡ finish_of w n j
