-- The row of intervals. From one request of its own to the next a job is preempted by at most one request of a lower task of its processor,
-- since that task runs no local tick meanwhile.
use Rattle.std.proofs.Common.{◌≡◌, ℕ, suc, ◌+◌, ◌*◌, ◌<◌, ◌≤◌, ◌==◌, ◌&&◌, true, false, length, refl, sym, ap, subst}
use Rattle.std.proofs.Common.{◌∙◌, arith, inl, inr, Some}
use Rattle.std.proofs.Math.Nat.{mul_comm, mul-le-mul_right}
use Rattle.std.proofs.lemmas.Bool.{cases_Bool, both_ways, and_parts, eqb-true, ltb-true}
use Rattle.number_laws.specs.Sums.{sum_below, flag}
use Rattle.number_laws.specs.Tests.{count_below}
use Rattle.number_laws.proofs.CountLaws.{count_below-at_most}
use Rattle.sporadic_model.specs.SetDef.{task_at}
use Rattle.sporadic_model.specs.Users.{count_of}
use Rattle.schedule_model.specs.declared.rule.Rule.TheVariants as rule
use Rattle.schedule_model.specs.JobDef.{job_of}
use Rattle.schedule_model.specs.LawfulJobs.{IsLawfulJob}
use Rattle.schedule_model.specs.RowDef.{Trace, running_on, holder_in, runs_in}
use Rattle.schedule_model.specs.Phase.{Phase, is_local, is_finished, phase_of}
use Rattle.schedule_model.specs.Phase.Phase.{Local, Asking, Finished}
use Rattle.schedule_model.specs.Activity.{task_of, processor_of, is_active, is_ready}
use Rattle.schedule_model.specs.SharedRules as shared
use Rattle.schedule_model.specs.SharedRules.{Ranks}
use Rattle.schedule_model.specs.DpcpRules as distributed
use Rattle.schedule_model.specs.DpcpRules.{has_requests}
use Rattle.schedule_model.specs.Protocols.{shared_rule, dpcp_rule}
use Rattle.schedule_model.specs.Keeping.{KeepsBefore}
use Rattle.schedule_laws.specs.Counting.{requests_in, requests_begun}
use Rattle.schedule_laws.proofs.Ticks.{finished_true, finished_stays}
use Rattle.schedule_laws.proofs.ActiveJobs.{Active, active_is, active_listed, active_stays, active_local_from, active_local_is, ActiveLocal}
use Rattle.schedule_laws.proofs.Rows.{runs_where, ReadyHolder, ready_holder_is, ready_holder_from, ready_is}
use Rattle.schedule_laws.proofs.Rows.{ready_local, ready_holding, ready_active}
use Rattle.schedule_laws.proofs.Begun.{requests_begun_up, requests_begun_at_most, open_if_begun}
use Rattle.schedule_laws.proofs.Holders.{shared_holder_stays}
use Rattle.schedule_laws.proofs.OwnRequests.{all_requests}
use Rattle.blocking_columns.specs.declared.columns.Class.{Class}
use Rattle.blocking_columns.specs.declared.columns.Class.TheVariants.{Preemption}
use Rattle.blocking_columns.specs.ColumnDef.{ColumnDef, is_preemption}
use Rattle.blocking_columns.specs.Columns.{is_lower_local, have_one_processor}
use Rattle.preempt_constraints.specs.Rows.{interval_row}
use Rattle.charge_laws.specs.Charges.{shared_charge, dpcp_charge, Charge}
use Rattle.charge_laws.specs.Windows.{window_end}
use Rattle.charge_laws.proofs.SharedCharging.{PreemptedBy, SharedReason, shared_reason, runner_holds}
use Rattle.charge_laws.proofs.DpcpCharging.{LocalBlocked, RunsRequest, RunsAtHomes, RunsAtHomesBefore, DpcpReason}
use Rattle.charge_laws.proofs.DpcpCharging.{dpcp_at_homes, home_reason, requests_run_home}
use Rattle.row_laws.specs.Meeting.{Charges, brings, TicksMeet}
use Rattle.row_laws.proofs.Brings.{Window, Hit, flag_times-at_most, flag_times-passes}
use Rattle.row_laws.proofs.SlotRow.{OneRequest, slot_row}
use Rattle.row_laws.proofs.Requests.{preemption_is, one_request}
use Rattle.row_laws.proofs.JobRows.{HitJob, hit_job}

-- A lower task of i's processor.
pub record LowerLocal (w : Trace) (i x : ℕ) : Type 0 where
  pub lower : i < x
  pub processor : (task_at w.set x).processor ≡ (task_at w.set i).processor

pub lower_local_is : (w : Trace) (i x : ℕ) → is_lower_local w.set i x ≡ true → LowerLocal w i x
lower_local_is w i x h = let parts : _ × (have_one_processor w.set x i ≡ true) = and_parts _ _ h in
    record { lower = ltb-true _ _ parts.0; processor = eqb-true _ _ parts.1 }

-- If a job is active at a tick, and isn't finished at a later one, it is active in between.
pub unfinished_between : (w : Trace) (u t v j : ℕ) → is_active w u j ≡ true → is_active w v j ≡ true → u ≤ t → t ≤ v
    → (is_finished (phase_of w t j) ≡ false) × (is_active w t j ≡ true)
unfinished_between w u t v j early late a b = elim (cases_Bool (is_finished (phase_of w t j))) [
  | inr more ↦ (more, active_stays w u t j early a more)
  | inl finished ↦
      let there : Active w v j = active_is w v j late in
      let e : phase_of w v j ≡ Finished = finished_stays w t v j b (finished_true (phase_of w t j) finished) in
      let x : is_finished (phase_of w v j) ≡ true = rw e refl in
      absurd (both_ways _ there.unfinished x)
]

-- As many requests are begun at t as at u, if as many are begun at v as at u.
pub begun_between : (w : Trace) (u t v j : ℕ) → u ≤ t → t ≤ v → requests_begun w u j ≡ requests_begun w v j
    → requests_begun w u j ≡ requests_begun w t j
begun_between w u t v j a b same = omega (arith, requests_begun_up w u t j a, requests_begun_up w t v j b)

-- A job that is ready at u, and begins no request up to v, is ready in between.
pub ready_between : (o : Ranks) (w : Trace) (n u t v j : ℕ) → KeepsBefore (shared_rule o) w n → u ≤ t → t ≤ v → v < n
    → is_ready w u j ≡ true → is_active w v j ≡ true
    → requests_begun w u j ≡ requests_begun w v j → is_ready w t j ≡ true
ready_between o w n u t v j keeps a b l early late same = go (phase_of w t j) refl where
  rest : (is_finished (phase_of w t j) ≡ false) × (is_active w t j ≡ true)
  rest = unfinished_between w u t v j (ready_active w u j early) late a b

  go : (p : Phase) → phase_of w t j ≡ p → is_ready w t j ≡ true
  go Local e = ready_local w t j (active_local_from w t j rest.1 e)
  go Finished e = let x : is_finished (phase_of w t j) ≡ true = rw e refl in absurd (both_ways _ rest.0 x)
  go (Asking m q) e =
      let opened : phase_of w u j ≡ Asking m q = open_if_begun w u t j m q a (begun_between w u t v j a b same) e in
      elim (ready_is w u j early) [
        | inl local ↦ let h : ActiveLocal w u j = active_local_is w u j local in let x : Local ≡ Asking m q = sym h.phase ∙ opened in
            absurd (cc)
        | inr holds ↦
            let h : ReadyHolder w u j = ready_holder_is w u j holds in
            let x : Asking h.number h.resource ≡ Asking m q = sym h.phase ∙ opened in
            let resource : h.resource ≡ q = cc in
            let held : holder_in (w.row u) q ≡ Some j = rw (← resource) h.holds in
            ready_holding w t j (ready_holder_from w t j m q rest.1 e
            (shared_holder_stays o w n u t q j m q keeps a (omega arith) opened e held))
      ]

-- Under shared memory a job of a lower local task runs no Local tick while job j is ready.
pub no_lower_local : (o : Ranks) (w : Trace) (t j y : ℕ) → shared.KeepsRun w t → shared.KeepsPriority o w t → is_ready w t j ≡ true
    → task_of w j < task_of w y → processor_of w y ≡ processor_of w j
    → phase_of w t y ≡ Local → runs_in (w.row t) y ≡ true → ⊥
no_lower_local o w t j y run priority ready lower processor local runs =
    let at : (k : ℕ) × (running_on (w.row t) k ≡ Some y) = runs_where (w.row t) y runs in
    let place : at.0 ≡ processor_of w j = run.column at.0 y at.1 ∙ processor in
    let here : running_on (w.row t) (processor_of w j) ≡ Some y = rw (← place) at.1 in
    let h : ReadyHolder w t y = ready_holder_is w t y (runner_holds o w t j y priority ready here lower) in
    let x : Local ≡ Asking h.number h.resource = sym local ∙ h.phase in
    cc

-- Why a tick of class Preemption is charged, under shared memory and under DPCP.
pub preempted_by : (o : Ranks) (w : Trace) (t j y : ℕ) (c : Class) → c ≡ Preemption → SharedReason o w t j c y → PreemptedBy w t j y
preempted_by o w t j y c e why = subst (λ (d : Class). SharedReason o w t j d y) e why

pub blocked_by : (w : Trace) (t j y : ℕ) (c : Class) → c ≡ Preemption → DpcpReason w t j c y → LocalBlocked w t j y
blocked_by w t j y c e why = subst (λ (d : Class). DpcpReason w t j d y) e why

-- What the row counts of a column.
abbrev interval_share : ℕ → (ℕ → ℕ → ℕ) → ColumnDef → ℕ
interval_share x share c = flag ((c.task == x) && is_preemption c.class) * share c.task c.resource

-- What counts is of x, and of class Preemption.
pub interval_hit : (charges : Charges) (w : Trace) (x j t : ℕ) (share : ℕ → ℕ → ℕ) → (h : Hit charges w (interval_share x share) j t)
    → (task_of w h.charge.job ≡ x) × (h.charge.class ≡ Preemption)
interval_hit charges w x j t share h =
    let both : ((task_of w h.charge.job == x) ≡ true) × (is_preemption h.charge.class ≡ true) =
    and_parts _ _ (flag_times-passes ((task_of w h.charge.job == x) && is_preemption h.charge.class)
    (share (task_of w h.charge.job) h.resource) h.some) in
    (eqb-true _ _ both.0, preemption_is h.charge.class both.1)

-- A tick is charged to job y by preemption.
pub record Preempted (charges : Charges) (w : Trace) (t j y : ℕ) : Type 0 where
  pub charge : Charge
  pub is_it : charges w t j ≡ Some charge
  pub class : charge.class ≡ Preemption
  pub job : charge.job ≡ y

-- The row of intervals, however ticks are charged. An interval is the ticks with one number of requests begun. Each is paid for once, if
-- this holds: between two ticks of one interval that are charged by preemption, the later one's job runs no Local tick.
pub interval_row_by : (charges : Charges) (w : Trace) (bound : ℕ → ℕ) (n j x : ℕ) → Window charges w bound n j
    → ((u v t y z : ℕ) → u ≤ t → t < v → v < n → Preempted charges w u j y → Preempted charges w v j z → task_of w z ≡ x
    → requests_begun w u j ≡ requests_begun w v j → phase_of w t z ≡ Local → runs_in (w.row t) z ≡ true → ⊥)
    → TicksMeet charges w bound n j (interval_row w.set (task_of w j) x)
interval_row_by charges w bound n j x window none s share fair =
    let most : sum_below (window_end w bound n j) (λ t. brings charges w f j t)
    ≤ count_below (suc (requests_in (job_of w.jobs j).script)) (λ k. true) * s =
    slot_row charges w bound n j (suc (requests_in (job_of w.jobs j).script)) s share f (λ t. requests_begun w t j) (λ k. true) window
    (record { within = λ t l h. omega (arith, requests_begun_at_most w t j); passes = λ t l h. refl; one = one })
    (record { fair = fair; small = λ c. flag_times-at_most ((c.task == x) && is_preemption c.class) (share c.task c.resource) }) in
    let number : count_below (suc (requests_in (job_of w.jobs j).script)) (λ k. true)
    ≤ 1 + sum_below (length w.set.resources) (λ q. count_of w.set (task_of w j) q) =
    omega (
      arith,
      count_below-at_most (suc (requests_in (job_of w.jobs j).script)) (λ k. true),
      all_requests w.set (job_of w.jobs j)
          (window.lawful.each j window.listed),
    ) in
    omega (
      arith,
      most,
      mul-le-mul_right s number,
      mul_comm
          (1 + sum_below (length w.set.resources) (λ q. count_of w.set (task_of w j) q)) s,
    ) where
      f : ColumnDef → ℕ
      f = interval_share x share

      preempted : (t : ℕ) → (h : Hit charges w f j t) → Preempted charges w t j h.charge.job
      preempted t h = record { charge = h.charge; is_it = h.is_it; class = (interval_hit charges w x j t share h).1; job = refl }

      one : (u v : ℕ) → u ≤ v → v < window_end w bound n j → (a : Hit charges w f j u) → (b : Hit charges w f j v)
          → requests_begun w u j ≡ requests_begun w v j → OneRequest w u v a.charge.job b.charge.job
      one u v order l a b same =
          let there : HitJob charges w bound j u a.charge.job = hit_job charges w bound n j u f window (omega arith) a in
          let later : HitJob charges w bound j v b.charge.job = hit_job charges w bound n j v f window l b in
          let lawful : IsLawfulJob w.set (job_of w.jobs b.charge.job) = window.lawful.each b.charge.job later.listed in
          let task_a : task_of w a.charge.job ≡ x = (interval_hit charges w x j u share a).0 in
          let task_b : task_of w b.charge.job ≡ x = (interval_hit charges w x j v share b).0 in
          one_request w n u v a.charge.job b.charge.job b.number b.resource window.active (omega arith) order lawful.script there.active
          (task_a ∙ sym task_b) b.request
          (λ t from before local runs. none u v t a.charge.job b.charge.job from before (omega arith) (preempted u a) (preempted v b) task_b
          same local runs)

-- The row of intervals under shared memory.
pub shared_interval_row_met : (o : Ranks) (w : Trace) (bound : ℕ → ℕ) (n j x : ℕ) → Window shared_charge w bound n j
    → KeepsBefore (shared_rule o) w n → is_lower_local w.set (task_of w j) x ≡ true
    → TicksMeet shared_charge w bound n j (interval_row w.set (task_of w j) x)
shared_interval_row_met o w bound n j x window keeps lower =
    interval_row_by shared_charge w bound n j x window (λ u v t y z from before l early late task same local runs. none u v t y z from
    before l early late task same local runs) where
      low : LowerLocal w (task_of w j) x
      low = lower_local_is w (task_of w j) x lower

      by : (t y : ℕ) → t < n → Preempted shared_charge w t j y → PreemptedBy w t j y
      by t y l a = rw (← a.job) (preempted_by o w t j a.charge.job a.charge.class a.class
          (shared_reason o w t j a.charge (keeps t l) a.is_it))

      none : (u v t y z : ℕ) → u ≤ t → t < v → v < n → Preempted shared_charge w u j y → Preempted shared_charge w v j z
          → task_of w z ≡ x → requests_begun w u j ≡ requests_begun w v j → phase_of w t z ≡ Local → runs_in (w.row t) z ≡ true → ⊥
      none u v t y z from before l a b task same local runs =
          let early : PreemptedBy w u j y = by u y (omega arith) a in
          let late : PreemptedBy w v j z = by v z l b in
          no_lower_local o w t j z (keeps t (omega arith) rule.Run) (keeps t (omega arith) rule.Priority)
          (ready_between o w n u t v j keeps from (omega arith) l early.ready (ready_active w v j late.ready) same) late.lower
          (ap (λ k. (task_at w.set k).processor) task ∙ low.processor) local runs

-- A job that is Local at u, and begins no request up to v, is Local in between.
pub local_between : (w : Trace) (u t v j : ℕ) → u ≤ t → t ≤ v → is_active w u j ≡ true → is_active w v j ≡ true → phase_of w u j ≡ Local
    → requests_begun w u j ≡ requests_begun w v j → phase_of w t j ≡ Local
local_between w u t v j a b early late local same = go (phase_of w t j) refl where
  rest : (is_finished (phase_of w t j) ≡ false) × (is_active w t j ≡ true)
  rest = unfinished_between w u t v j early late a b

  go : (p : Phase) → phase_of w t j ≡ p → phase_of w t j ≡ Local
  go Local e = e
  go Finished e = let x : is_finished (phase_of w t j) ≡ true = rw e refl in absurd (both_ways _ rest.0 x)
  go (Asking m q) e =
      let opened : phase_of w u j ≡ Asking m q = open_if_begun w u t j m q a (begun_between w u t v j a b same) e in
      let x : Local ≡ Asking m q = sym local ∙ opened in
      absurd (cc)

-- If requests run at homes, a job of a lower local task runs no Local tick while job j is Local.
pub no_lower_local_home : (w : Trace) (t j y : ℕ) → RunsAtHomes w t → is_active w t j ≡ true → phase_of w t j ≡ Local
    → task_of w j < task_of w y → processor_of w y ≡ processor_of w j
    → phase_of w t y ≡ Local → runs_in (w.row t) y ≡ true → ⊥
no_lower_local_home w t j y homes active waits lower processor local runs = elim (cases_Bool (has_requests w t (processor_of w j))) [
  | inl some ↦
      let r : RunsRequest w t (processor_of w j) y = requests_run_home w t (processor_of w j) y homes some here in
      let x : Local ≡ Asking r.number r.resource = sym local ∙ r.request in
      cc
  | inr none ↦ omega (
    arith,
    homes.locals (processor_of w j) y here none j (active_listed w t j active) refl
        (active_local_from w t j active waits),
  )
] where
  run : distributed.KeepsRun w t
  run = homes.run

  here : running_on (w.row t) (processor_of w j) ≡ Some y
  here =
      let at : (k : ℕ) × (running_on (w.row t) k ≡ Some y) = runs_where (w.row t) y runs in
      let is : is_local (phase_of w t y) ≡ true = rw local refl in
      let place : at.0 ≡ processor_of w j = run.local at.0 y at.1 is ∙ processor in
      rw (← place) at.1

-- The row of intervals if requests run at homes.
pub home_interval_row_met : (w : Trace) (bound : ℕ → ℕ) (n j x : ℕ) → Window dpcp_charge w bound n j → RunsAtHomesBefore w n
    → is_lower_local w.set (task_of w j) x ≡ true
    → TicksMeet dpcp_charge w bound n j (interval_row w.set (task_of w j) x)
home_interval_row_met w bound n j x window homes lower =
    interval_row_by dpcp_charge w bound n j x window (λ u v t y z from before l early late task same local runs. none u v t y z from
    before l early late task same local runs) where
      low : LowerLocal w (task_of w j) x
      low = lower_local_is w (task_of w j) x lower

      by : (t y : ℕ) → t < n → Preempted dpcp_charge w t j y → LocalBlocked w t j y
      by t y l a = rw (← a.job) (blocked_by w t j a.charge.job a.charge.class a.class (home_reason w t j a.charge (homes t l) a.is_it))

      none : (u v t y z : ℕ) → u ≤ t → t < v → v < n → Preempted dpcp_charge w u j y → Preempted dpcp_charge w v j z
          → task_of w z ≡ x → requests_begun w u j ≡ requests_begun w v j → phase_of w t z ≡ Local → runs_in (w.row t) z ≡ true → ⊥
      none u v t y z from before l a b task same local runs =
          let early : LocalBlocked w u j y = by u y (omega arith) a in
          let late : LocalBlocked w v j z = by v z l b in
          no_lower_local_home w t j z (homes t (omega arith))
          (unfinished_between w u t v j early.active late.active from (omega arith)).1
          (local_between w u t v j from (omega arith) early.active late.active early.local same) (omega (arith, low.lower, task))
          (ap (λ k. (task_at w.set k).processor) task ∙ low.processor) local runs

-- The row under DPCP.
pub dpcp_interval_row_met : (w : Trace) (bound : ℕ → ℕ) (n j x : ℕ) → Window dpcp_charge w bound n j → KeepsBefore dpcp_rule w n
    → is_lower_local w.set (task_of w j) x ≡ true
    → TicksMeet dpcp_charge w bound n j (interval_row w.set (task_of w j) x)
dpcp_interval_row_met w bound n j x window keeps lower =
    home_interval_row_met w bound n j x window (λ t l. dpcp_at_homes w t (keeps t l)) lower
