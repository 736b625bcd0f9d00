-- The row of lower holders, under MPCP, which grants by base priority. While a job is in a request, no job of a lower task becomes the
-- holder of its resource. So a lower job that holds it has held it since before.
use Rattle.std.proofs.Common.{◌≡◌, ℕ, zero, suc, ◌*◌, ◌<◌, ◌≤◌, ◌==◌, ◌&&◌, true, false, refl, sym, ap, ◌∙◌, arith, inl, inr, Some, nat_lt}
use Rattle.std.proofs.lemmas.Bool.{cases_lt, cases_Bool, both_ways, and_parts, eqb-true, eq-eqb, ltb-true}
use Rattle.number_laws.specs.Sums.{flag}
use Rattle.schedule_model.specs.declared.rule.Rule.TheVariants as rule
use Rattle.schedule_model.specs.JobDef.{job_of}
use Rattle.schedule_model.specs.LawfulJobs.{IsLawfulJob}
use Rattle.schedule_model.specs.RowDef.{Trace, is_job, holder_in, held_before}
use Rattle.schedule_model.specs.Phase.{phase_of}
use Rattle.schedule_model.specs.Phase.Phase.{Local, Asking}
use Rattle.schedule_model.specs.Activity.{task_of, is_active, is_requester}
use Rattle.schedule_model.specs.SharedRules.{Ranks, KeepsGrant}
use Rattle.schedule_model.specs.Ranks.{mpcp}
use Rattle.schedule_model.specs.Protocols.{shared_rule}
use Rattle.schedule_model.specs.Keeping.{KeepsBefore}
use Rattle.schedule_laws.proofs.Ticks.{open_between}
use Rattle.schedule_laws.proofs.ActiveJobs.{active_stays, Requester, requester_is, requester_from, requester_listed}
use Rattle.schedule_laws.proofs.Rows.{job_named, named_job}
use Rattle.blocking_columns.specs.ColumnDef.{ColumnDef, is_direct}
use Rattle.direct_constraints.specs.Rows.{lower_holder_row}
use Rattle.charge_laws.specs.Charges.{shared_charge}
use Rattle.charge_laws.specs.Windows.{window_end}
use Rattle.charge_laws.proofs.SharedCharging.{WaitsFor, DirectBy, shared_reason}
use Rattle.row_laws.specs.Meeting.{TicksMeet}
use Rattle.row_laws.proofs.Brings.{Window, Hit, flag_times-at_most, flag_times-passes}
use Rattle.row_laws.proofs.JobRows.{HitJob, hit_job}
use Rattle.row_laws.proofs.SlotRow.{OneRequest}
use Rattle.row_laws.proofs.Requests.{direct_is, direct_by, held_resource, one_request}
use Rattle.row_laws.proofs.Numbers.{by_number_of}

-- A new holder isn't of a lower task than a requester.
pub mpcp_new : (w : Trace) (t q y j : ℕ) → KeepsGrant mpcp w t → holder_in (w.row t) q ≡ Some y → is_job y (held_before w t q) ≡ false
    → is_requester w t q j ≡ true → task_of w y ≤ task_of w j
unfolding mpcp
mpcp_new w t q y j grant holds new asks =
    grant.first q y holds (λ e. both_ways (is_job y (held_before w t q)) new (named_job y (held_before w t q) e)) j
    (requester_listed w t q j asks) asks

-- A job is in its request, active, from u to v.
pub record Asks (w : Trace) (u v q j : ℕ) : Type 0 where
  pub order : u ≤ v
  pub asks : (t : ℕ) → u ≤ t → t ≤ v → is_requester w t q j ≡ true

pub asks_between : (w : Trace) (u v k q r j : ℕ) → u ≤ v → is_active w u j ≡ true → phase_of w u j ≡ Asking k q
    → phase_of w v j ≡ Asking k r → Asks w u v q j
asks_between w u v k q r j order active early late =
    record { order = order; asks = λ t a b. there t (open_between w u t v j k q r early late a b) a } where
      there : (t : ℕ) → phase_of w t j ≡ Asking k q → u ≤ t → is_requester w t q j ≡ true
      there t e a = requester_from w t q j k (active_stays w u t j active a (rw e refl)) e

-- A holder at v has held the resource since u, if it became the holder in no row after u.
pub held_back : (w : Trace) (u v q y : ℕ)
    → ((t : ℕ) → u ≤ t → suc t ≤ v → holder_in (w.row (suc t)) q ≡ Some y → is_job y (holder_in (w.row t) q) ≡ false → ⊥)
    → holder_in (w.row v) q ≡ Some y → (t : ℕ) → u ≤ t → t ≤ v → holder_in (w.row t) q ≡ Some y
held_back w u zero q y none holds t a b = let e : t ≡ 0 = omega arith in rw e holds
held_back w u (suc v) q y none holds t a b = elim (cases_lt v t) [
  | inl last ↦ let e : t ≡ suc v = omega arith in rw e holds
  | inr early ↦ elim (cases_Bool (is_job y (holder_in (w.row v) q))) [
    | inr new ↦ absurd (none v (omega arith) (omega arith) holds new)
    | inl old ↦
        held_back w u v q y (λ s from before held new. none s from (omega arith) held new)
        (job_named y (holder_in (w.row v) q) old) t a early
  ]
]

-- So has a lower holder, if j was in its request since then.
pub held_since : (w : Trace) (n u v q y j : ℕ) → KeepsBefore (shared_rule mpcp) w n → v < n → Asks w u v q j → task_of w j < task_of w y
    → holder_in (w.row v) q ≡ Some y
    → (t : ℕ) → u ≤ t → t ≤ v → holder_in (w.row t) q ≡ Some y
held_since w n u v q y j keeps l asks lower holds =
    held_back w u v q y
    (λ s from before held new. omega (
      arith,
      lower,
      mpcp_new w (suc s) q y j (keeps (suc s) (omega arith) rule.Grant) held new (asks.asks (suc s) (omega arith) before),
    ))
    holds

-- A holder of a resource is in a request of it.
pub holder_asks : (o : Ranks) (w : Trace) (n t q y : ℕ) → KeepsBefore (shared_rule o) w n → t < n → holder_in (w.row t) q ≡ Some y
    → Requester w t q y
holder_asks o w n t q y keeps l holds = let grant : KeepsGrant o w t = keeps t l rule.Grant in
    requester_is w t q y (grant.requests q y holds)

-- A charge whose column is of q, direct, and of a lower task.
record LowerDirect (w : Trace) (i q y r : ℕ) : Type 0 where
  same : r ≡ q
  lower : i < task_of w y

-- The row of lower holders.
pub lower_holder_row_met : (w : Trace) (bound : ℕ → ℕ) (n j q : ℕ) → Window shared_charge w bound n j → KeepsBefore (shared_rule mpcp) w n
    → TicksMeet shared_charge w bound n j (lower_holder_row w.set (task_of w j) q)
lower_holder_row_met w bound n j q window keeps s share fair =
    by_number_of shared_charge w bound n j q s share f window
    (record {
      fair = fair;
      small = λ c. flag_times-at_most (((c.resource == q) && is_direct c.class) && nat_lt (task_of w j) c.task) (share c.task c.resource);
    })
    (λ t l h. let a : WaitsFor w t j h.charge.job = waits t (omega arith) h in
    record {
      number = a.number;
      resource = a.resource;
      request = a.request;
      passes = eq-eqb a.resource q (held_resource w t j h.charge.job h.number h.resource a h.request ∙ (column t h).same);
    })
    one where
      f : ColumnDef → ℕ
      f = λ c. flag (((c.resource == q) && is_direct c.class) && nat_lt (task_of w j) c.task) * share c.task c.resource

      tests : (t : ℕ) → (h : Hit shared_charge w f j t)
          → (((h.resource == q) && is_direct h.charge.class) ≡ true) × (nat_lt (task_of w j) (task_of w h.charge.job) ≡ true)
      tests t h = and_parts _ _
          (flag_times-passes (((h.resource == q) && is_direct h.charge.class) && nat_lt (task_of w j) (task_of w h.charge.job))
          (share (task_of w h.charge.job) h.resource) h.some)

      column : (t : ℕ) → (h : Hit shared_charge w f j t) → LowerDirect w (task_of w j) q h.charge.job h.resource
      column t h = let both : ((h.resource == q) ≡ true) × (is_direct h.charge.class ≡ true) = and_parts _ _ (tests t h).0 in
          record { same = eqb-true _ _ both.0; lower = ltb-true _ _ (tests t h).1 }

      waits : (t : ℕ) → t < n → (h : Hit shared_charge w f j t) → WaitsFor w t j h.charge.job
      waits t l h =
          let both : ((h.resource == q) ≡ true) × (is_direct h.charge.class ≡ true) = and_parts _ _ (tests t h).0 in
          let why : DirectBy w t j h.charge.job =
          direct_by mpcp w t j h.charge.job h.charge.class (direct_is h.charge.class both.1)
          (shared_reason mpcp w t j h.charge (keeps t l) h.is_it) in
          why.waits

      held : (t : ℕ) → t < n → (h : Hit shared_charge w f j t) → holder_in (w.row t) q ≡ Some h.charge.job
      held t l h =
          let a : WaitsFor w t j h.charge.job = waits t l h in
          let same : a.resource ≡ q = held_resource w t j h.charge.job h.number h.resource a h.request ∙ (column t h).same in
          ap (holder_in (w.row t)) (sym same) ∙ a.holder

      one : (u v k a b : ℕ) → u ≤ v → v < window_end w bound n j → (g : Hit shared_charge w f j u) → (h : Hit shared_charge w f j v)
          → phase_of w u j ≡ Asking k a → phase_of w v j ≡ Asking k b
          → OneRequest w u v g.charge.job h.charge.job
      one u v k a b order l g h early late =
          let mine : WaitsFor w u j g.charge.job = waits u (omega arith) g in
          let x : Asking k a ≡ Asking mine.number mine.resource = sym early ∙ mine.request in
          let resource : a ≡ mine.resource = cc in
          let same : mine.resource ≡ q = held_resource w u j g.charge.job g.number g.resource mine g.request ∙ (column u g).same in
          let asks : Asks w u v q j = asks_between w u v k q b j order mine.active (early ∙ ap (Asking k) (resource ∙ same)) late in
          let since : (t : ℕ) → u ≤ t → t ≤ v
          → holder_in (w.row t) q ≡ Some h.charge.job =
          held_since w n u v q h.charge.job j keeps (omega arith) asks (column v h).lower (held v (omega arith) h) in
          let both : Some g.charge.job ≡ Some h.charge.job = sym (held u (omega arith) g) ∙ since u (omega arith) order in
          let job : g.charge.job ≡ h.charge.job = cc in
          let there : HitJob shared_charge w bound j u g.charge.job = hit_job shared_charge w bound n j u f window (omega arith) g in
          let later : HitJob shared_charge w bound j v h.charge.job = hit_job shared_charge w bound n j v f window l h in
          let lawful : IsLawfulJob w.set (job_of w.jobs h.charge.job) = window.lawful.each h.charge.job later.listed in
          one_request w n u v g.charge.job h.charge.job h.number h.resource window.active (omega arith) order lawful.script there.active
          (ap (task_of w) job) h.request
          (λ t from before local runs. let r : Requester w t q h.charge.job =
          holder_asks mpcp w n t q h.charge.job keeps (omega arith) (since t from (omega arith)) in
          let y : Local ≡ Asking r.number q = sym local ∙ r.phase in cc)
