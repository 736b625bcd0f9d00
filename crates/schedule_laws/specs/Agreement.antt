-- Which schedules are the same up to a tick? What depends only on the rows up to a tick? And in which schedules is each running job active?
use Rattle.std.specs.Prelude.{◌≡◌, ℕ, ◌<◌, Bool, true, Some}
use Rattle.schedule_model.specs.RowDef.{Trace, running_on, held_before}
use Rattle.schedule_model.specs.Phase.{executed, phase_of}
use Rattle.schedule_model.specs.Activity.{is_pending, is_active, active_job_of, is_requester, issue_tick_of}
use Rattle.schedule_model.specs.BlockedTicks.{is_interferer}
use Rattle.schedule_model.specs.declared.rule.Rule.{Rule}

-- Are these schedules of the same jobs, with the same rows before tick n?
pub record AgreeBefore (v w : Trace) (n : ℕ) : Type 0 where
  pub set : v.set ≡ w.set
  pub jobs : v.jobs ≡ w.jobs
  pub rows : (t : ℕ) → t < n → v.row t ≡ w.row t

-- Is the same said of tick t in both schedules, as far as the tick's own row doesn't matter?
pub record AgreeOnTick (v w : Trace) (t : ℕ) : Type 0 where
  pub ticks : (j : ℕ) → executed v t j ≡ executed w t j
  pub phase : (j : ℕ) → phase_of v t j ≡ phase_of w t j
  pub pending : (j : ℕ) → is_pending v t j ≡ is_pending w t j
  pub active : (j : ℕ) → is_active v t j ≡ is_active w t j
  pub active_job : (x : ℕ) → active_job_of v t x ≡ active_job_of w t x
  pub requester : (q j : ℕ) → is_requester v t q j ≡ is_requester w t q j
  pub issue : (j : ℕ) → issue_tick_of v t j ≡ issue_tick_of w t j
  pub held : (q : ℕ) → held_before v t q ≡ held_before w t q

-- Is each job active that runs in a row before tick n?
abbrev pub RunsActiveBefore : Trace → ℕ → Type 0
RunsActiveBefore w n = (t k j : ℕ) → t < n → running_on (w.row t) k ≡ Some j → is_active w t j ≡ true

-- Does it depend only on the rows up to a row whether it keeps one of these rules?
abbrev pub RulesReadUpTo : (Rule → Trace → ℕ → Type 0) → Type 0
RulesReadUpTo keeps = (r : Rule) (v w : Trace) (n t : ℕ) → AgreeBefore v w n → t < n → keeps r v t → keeps r w t

-- Does it depend only on the rows up to a row whether it is chosen?
abbrev pub ChoiceReadsUpTo : (Trace → ℕ → Type 0) → Type 0
ChoiceReadsUpTo chosen = (v w : Trace) (n t : ℕ) → AgreeBefore v w n → t < n → chosen v t → chosen w t

-- Does it depend only on the rows up to a tick whether it is one of these for a job?
abbrev pub TicksReadUpTo : (Trace → ℕ → ℕ → Bool) → Type 0
TicksReadUpTo ticks = (v w : Trace) (n t j : ℕ) → AgreeBefore v w n → t < n → ticks v t j ≡ ticks w t j

-- Is tick t interference for job j, and does job y make it so?
abbrev pub interfering : (Trace → ℕ → ℕ → Bool) → ℕ → Trace → ℕ → ℕ → Bool
interfering interferes y w t j = is_interferer interferes w t j y

-- Do a protocol's rules, its choice and its interference depend only on the rows up to a row?
pub record ReadsUpTo (keeps : Rule → Trace → ℕ → Type 0) (chooses : Trace → ℕ → Type 0) (interferes : Trace → ℕ → ℕ → Bool) : Type 0 where
  pub rules : RulesReadUpTo keeps
  pub choice : ChoiceReadsUpTo chooses
  pub interference : TicksReadUpTo interferes
