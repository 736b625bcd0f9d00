-- What bounds in ticks promise for a machine whose rows are cycles. As for rows that are ticks, this is said of the task set, its jobs
-- and the rows alone.
use Rattle.std.specs.Prelude.{ℕ, ◌+◌, ◌-◌, ◌*◌, ◌<◌, ◌≤◌, Bool, List, length, map}
use Rattle.sporadic_model.specs.SetDef.{SetDef}
use Rattle.schedule_model.specs.JobDef.{job_of, total_ticks}
use Rattle.schedule_model.specs.RowDef.{Trace}
use Rattle.schedule_model.specs.Activity.{task_of}
use Rattle.schedule_model.specs.declared.rule.Rule.{Rule}
use Rattle.soundness_laws.specs.Sound.{IsLawfulSchedule, KeepsBounds}
use Rattle.clock_laws.specs.Cycles.{in_cycles, times_each, own_cycles}

-- A lawful schedule of n rows, each of them a cycle, of the set in cycles. No job executes more cycles than it may.
pub record IsLawfulInCycles (keeps : Rule → Trace → ℕ → Type 0) (whole : ℕ → Bool) (k : ℕ) (set : SetDef) (w : Trace) (n : ℕ)
    : Type 0 where
  pub schedule : IsLawfulSchedule keeps (in_cycles k set) w n
  pub spare : (j : ℕ) → j < length w.jobs → total_ticks (job_of w.jobs j).script ≤ own_cycles whole k set (task_of w j)

-- Values in ticks, as cycles: k times as many, plus a part of a tick, which is k - 1 cycles at most.
abbrev pub values_in_cycles : ℕ → List ℕ → List ℕ
values_in_cycles k values = map (λ v. k * v + (k - 1)) values

-- Bounds and values in ticks are sound on clocks: however many cycles a tick has, each such schedule keeps them, in cycles.
abbrev pub SoundOnClocks : (Rule → Trace → ℕ → Type 0) → (Trace → ℕ → ℕ → Bool) → (ℕ → Bool) → SetDef → List ℕ → List ℕ → Type 0
SoundOnClocks keeps interferes whole set bounds values = (k : ℕ) (w : Trace) (n : ℕ) → 1 ≤ k → IsLawfulInCycles keeps whole k set w n
    → KeepsBounds interferes w n (times_each k bounds) (values_in_cycles k values)
