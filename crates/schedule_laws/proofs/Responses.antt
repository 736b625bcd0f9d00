-- Why a job ends: each tick from its release until it is finished is one of executing, interference and blocked, so
-- a job that isn't finished after b ticks had more than b ticks of its script, of interference and of blocking.
use Rattle.std.proofs.Common.{◌≡◌, ℕ, zero, suc, ◌+◌, ◌<◌, ◌≤◌, Bool, true, false, refl, arith, inl, inr}
use Rattle.std.proofs.lemmas.Bool.{cases_lt, cases_Bool, both_ways}
use Rattle.number_laws.specs.Sums.{flag}
use Rattle.number_laws.specs.Tests.{count_below}
use Rattle.number_laws.proofs.CountLaws.{count_below-monotone, count_below-split, count_below-all}
use Rattle.schedule_model.specs.JobDef.{job_of, total_ticks}
use Rattle.schedule_model.specs.RowDef.{Trace, runs_in}
use Rattle.schedule_model.specs.Phase.{is_finished, phase_of, executed}
use Rattle.schedule_model.specs.Phase.Phase.{Finished}
use Rattle.schedule_model.specs.Activity.{task_of, is_active}
use Rattle.schedule_model.specs.BlockedTicks.{is_executing, is_blocked}
use Rattle.schedule_model.specs.Measures.{blocking_of}
use Rattle.schedule_model.specs.ProtocolLaws.{IsOneOfThree}
use Rattle.schedule_laws.proofs.Ticks.{finished_at, unfinished_before}
use Rattle.schedule_laws.proofs.ActiveJobs.{active_since}
use Rattle.schedule_laws.proofs.KindsOfTicks.{Executing, executing_is}

-- Over n ticks: the active ones are the executing, those of interference and the blocked, together.
pub active_ticks : (interferes : Trace → ℕ → ℕ → Bool) (w : Trace) (n j : ℕ) → ((t : ℕ) → t < n → IsOneOfThree interferes w t j)
    → count_below n (λ t. is_active w t j)
    ≡ count_below n (λ t. is_executing w t j) + count_below n (λ t. interferes w t j) + blocking_of interferes w n j
unfolding blocking_of
active_ticks interferes w zero j three = refl
active_ticks interferes w (suc n) j three =
    let last : flag (is_executing w n j) + flag (interferes w n j) + flag (is_blocked interferes w n j)
    ≡ flag (is_active w n j) = three n (omega arith) in
    omega (arith, last, active_ticks interferes w n j (λ t l. three t (omega arith)))

-- A job executes at no more ticks than it runs at.
pub executing_at_most : (w : Trace) (n j : ℕ) → count_below n (λ t. is_executing w t j) ≤ executed w n j
unfolding executed
executing_at_most w n j = count_below-monotone n (λ t. is_executing w t j) (λ t. runs_in (w.row t) j) (λ t l h. runs t h) where
  runs : (t : ℕ) → is_executing w t j ≡ true → runs_in (w.row t) j ≡ true
  runs t h = let e : Executing w t j = executing_is w t j h in e.runs

-- A job that isn't finished has not executed all of its script.
pub unfinished_executed : (w : Trace) (t j : ℕ) → is_finished (phase_of w t j) ≡ false
    → executed w t j < total_ticks (job_of w.jobs j).script
unfinished_executed w t j h = elim (cases_lt (executed w t j) (total_ticks (job_of w.jobs j).script)) [
  | inl less ↦ less
  | inr all ↦
      let e : phase_of w t j ≡ Finished = finished_at w t j all in
      let x : is_finished (phase_of w t j) ≡ true = rw e refl in
      absurd (both_ways _ h x)
]

-- Where the earlier jobs of its task are finished at a job's release r, and it isn't finished b ticks later, each of
-- these ticks is active.
pub active_ticks_since : (w : Trace) (r b j : ℕ) → (job_of w.jobs j).release ≡ r
    → ((e : ℕ) → e < j → task_of w e ≡ task_of w j → phase_of w r e ≡ Finished)
    → is_finished (phase_of w (r + b) j) ≡ false → b ≤ count_below (r + b) (λ t. is_active w t j)
active_ticks_since w r b j released earlier unfinished =
    let split : count_below (r + b) (λ t. is_active w t j)
    ≡ count_below r (λ t. is_active w t j) + count_below b (λ k. is_active w (r + k) j) =
    count_below-split r b (λ t. is_active w t j) in
    let all : count_below b (λ k. is_active w (r + k) j) ≡ b = count_below-all b (λ k. is_active w (r + k) j)
    (λ k l. active_since w r (r + k) j earlier (omega arith) (omega (arith, released))
    (unfinished_before w (r + k) (r + b) j (omega arith) unfinished)) in
    omega (arith, split, all)

-- So it had more than b ticks of its script, of interference and of blocking.
pub late_job : (interferes : Trace → ℕ → ℕ → Bool) (w : Trace) (r b j : ℕ)
    → ((t : ℕ) → t < r + b → IsOneOfThree interferes w t j) → (job_of w.jobs j).release ≡ r
    → ((e : ℕ) → e < j → task_of w e ≡ task_of w j → phase_of w r e ≡ Finished) → is_finished (phase_of w (r + b) j) ≡ false
    → b < total_ticks (job_of w.jobs j).script + count_below (r + b) (λ t. interferes w t j) + blocking_of interferes w (r + b) j
late_job interferes w r b j three released earlier unfinished =
    omega (
      arith,
      active_ticks interferes w (r + b) j three,
      executing_at_most w (r + b) j,
      unfinished_executed w (r + b) j unfinished,
      active_ticks_since w r b j released earlier unfinished,
    )

-- Or the other way: a job whose script, interference and blocking are at most b ticks is finished b ticks after its release.
pub finished_in_time : (interferes : Trace → ℕ → ℕ → Bool) (w : Trace) (r b j : ℕ)
    → ((t : ℕ) → t < r + b → IsOneOfThree interferes w t j) → (job_of w.jobs j).release ≡ r
    → ((e : ℕ) → e < j → task_of w e ≡ task_of w j → phase_of w r e ≡ Finished)
    → total_ticks (job_of w.jobs j).script + count_below (r + b) (λ t. interferes w t j)
    + blocking_of interferes w (r + b) j ≤ b → is_finished (phase_of w (r + b) j) ≡ true
finished_in_time interferes w r b j three released earlier most = elim (cases_Bool (is_finished (phase_of w (r + b) j))) [
  | inl finished ↦ finished
  | inr unfinished ↦ absurd (omega (arith, most, late_job interferes w r b j three released earlier unfinished))
]
