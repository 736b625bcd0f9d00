-- When are two ticks charged to one request? If the later one's request was open at the earlier tick.
use Rattle.std.proofs.Common.{◌≡◌, ℕ, ◌<◌, ◌≤◌, true, refl, sym, ap, subst, ◌∙◌, arith}
use Rattle.schedule_model.specs.JobDef.{job_of}
use Rattle.schedule_model.specs.LawfulJobs.{is_script}
use Rattle.schedule_model.specs.RowDef.{Trace, runs_in}
use Rattle.schedule_model.specs.Phase.{phase_of}
use Rattle.schedule_model.specs.Phase.Phase.{Local, Asking}
use Rattle.schedule_model.specs.Activity.{task_of, is_active, is_requester}
use Rattle.schedule_laws.specs.Agreement.{RunsActiveBefore}
use Rattle.schedule_laws.proofs.ActiveJobs.{one_active, Requester, requester_is, requester_from}
use Rattle.schedule_laws.proofs.Holders.{open_active, open_at}
use Rattle.blocking_columns.specs.declared.columns.Class.{Class}
use Rattle.blocking_columns.specs.declared.columns.Class.TheVariants.{Direct, Indirect, Preemption}
use Rattle.blocking_columns.specs.ColumnDef.{is_direct, is_indirect, is_preemption}
use Rattle.schedule_model.specs.SharedRules.{Ranks}
use Rattle.charge_laws.proofs.SharedCharging.{WaitsFor, DirectBy, IndirectBy, SharedReason}
use Rattle.row_laws.proofs.SlotRow.{OneRequest}

pub direct_is : (c : Class) → is_direct c ≡ true → c ≡ Direct
direct_is Direct h = refl
direct_is Indirect h = absurd (cc)
direct_is Preemption h = absurd (cc)

pub indirect_is : (c : Class) → is_indirect c ≡ true → c ≡ Indirect
indirect_is Indirect h = refl
indirect_is Direct h = absurd (cc)
indirect_is Preemption h = absurd (cc)

pub preemption_is : (c : Class) → is_preemption c ≡ true → c ≡ Preemption
preemption_is Preemption h = refl
preemption_is Direct h = absurd (cc)
preemption_is Indirect h = absurd (cc)

-- One job, in one request at both ticks.
one_phase : (w : Trace) (u v i k m q : ℕ) → i ≡ k → phase_of w u k ≡ Asking m q → phase_of w v k ≡ Asking m q → OneRequest w u v i k
one_phase w u v i k m q job early late = record { job = job; phase = ap (phase_of w u) job ∙ early ∙ sym late }

-- Job i is active at u, and job k, of the same task, is in a request at v, and executes no Local tick in between.
pub one_request : (w : Trace) (n u v i k m q : ℕ) → RunsActiveBefore w n → u ≤ n → u ≤ v → is_script (job_of w.jobs k).script ≡ true
    → is_active w u i ≡ true → task_of w i ≡ task_of w k
    → phase_of w v k ≡ Asking m q → ((t : ℕ) → u ≤ t → t < v → phase_of w t k ≡ Local → runs_in (w.row t) k ≡ true → ⊥)
    → OneRequest w u v i k
one_request w n u v i k m q runs l order script active same late none =
    let early : phase_of w u k ≡ Asking m q = open_at w u v k m q script order late none in
    one_phase w u v i k m q (one_active w u i k active (open_active w n u k m q runs l script early) same) early late

-- Is at most one of the jobs with one number, such as that of their task, in a request at a time?
abbrev pub AsksAlone : Trace → ℕ → (ℕ → ℕ) → Type 0
AsksAlone w n kind = (t q r y z : ℕ) → t < n → is_requester w t q y ≡ true → is_requester w t r z ≡ true → kind y ≡ kind z → y ≡ z

-- The same for the jobs of a task.
pub tasks_ask_alone : (w : Trace) (n : ℕ) → AsksAlone w n (task_of w)
tasks_ask_alone w n t q r y z l a b same =
    let one : Requester w t q y = requester_is w t q y a in
    let other : Requester w t r z = requester_is w t r z b in
    one_active w t y z one.active other.active same

-- Job i is in a request at u, and job k, of the same number, is in one at v that was open at u.
pub one_open : (w : Trace) (n u v i k p m q : ℕ) (kind : ℕ → ℕ) → RunsActiveBefore w n → AsksAlone w n kind → u < n
    → is_script (job_of w.jobs k).script ≡ true → is_requester w u p i ≡ true → kind i ≡ kind k
    → phase_of w u k ≡ Asking m q → phase_of w v k ≡ Asking m q → OneRequest w u v i k
one_open w n u v i k p m q kind runs alone l script asks same early late =
    let there : is_requester w u q k ≡ true =
    requester_from w u q k m (open_active w n u k m q runs (omega arith) script early) early in
    one_phase w u v i k m q (alone u p q i k l asks there same) early late

-- Why ticks of these classes are charged.
pub direct_by : (o : Ranks) (w : Trace) (t j y : ℕ) (c : Class) → c ≡ Direct → SharedReason o w t j c y → DirectBy w t j y
direct_by o w t j y c e why = subst (λ (d : Class). SharedReason o w t j d y) e why

pub indirect_by : (o : Ranks) (w : Trace) (t j y : ℕ) (c : Class) → c ≡ Indirect → SharedReason o w t j c y → IndirectBy o w t j y
indirect_by o w t j y c e why = subst (λ (d : Class). SharedReason o w t j d y) e why

-- The holder's request is of the resource that the job waits for.
pub held_resource : (w : Trace) (t j y m q : ℕ) → (a : WaitsFor w t j y) → phase_of w t y ≡ Asking m q → a.resource ≡ q
held_resource w t j y m q a e = let x : Asking a.holding a.resource ≡ Asking m q = sym a.held ∙ e in cc
