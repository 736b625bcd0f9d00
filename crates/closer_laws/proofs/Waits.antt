-- What a job waits for under FMLP+: a resource that is shared out, held by a job of another task that was issued no later than its own
-- request. What runs meanwhile on that job's processor was issued no later than that.
use Rattle.std.proofs.Common.{◌≡◌, ℕ, ◌*◌, ◌<◌, ◌≤◌, Bool, true, false, refl, sym, ap, ◌∙◌, arith, inl, inr, Some}
use Rattle.std.proofs.lemmas.Bool.{cases_lt, cases_Bool, both_ways}
use Rattle.number_laws.specs.Sums.{sum_below, flag}
use Rattle.number_laws.proofs.SumLaws.{sum_below-zero}
use Rattle.schedule_model.specs.LawfulJobs.{AreLawfulJobs}
use Rattle.schedule_model.specs.RowDef.{Trace, jobs_of, holder_in, runs_in}
use Rattle.schedule_model.specs.Phase.{phase_of}
use Rattle.schedule_model.specs.Phase.Phase.{Asking}
use Rattle.schedule_model.specs.Activity.{task_of, processor_of, is_ready, issue_tick_of}
use Rattle.schedule_model.specs.SharedRules.{Ranks, KeepsRun}
use Rattle.schedule_model.specs.Ranks.{fmlp_plus}
use Rattle.schedule_model.specs.Protocols.{shared_rule}
use Rattle.schedule_model.specs.Keeping.{KeepsBefore}
use Rattle.schedule_laws.proofs.ActiveJobs.{one_active}
use Rattle.schedule_laws.proofs.Rows.{ReadyHolder, ready_holder_is, ready_holding, runs_from}
use Rattle.blocking_columns.specs.declared.columns.Class.{Class}
use Rattle.blocking_columns.specs.declared.columns.Class.TheVariants.{Direct, Indirect, Preemption}
use Rattle.blocking_columns.specs.ColumnDef.{ColumnDef, is_preemption}
use Rattle.fragments.specs.Constraints.{counting}
use Rattle.charge_laws.specs.Windows.{window_end}
use Rattle.charge_laws.proofs.SharedCharging.{WaitsFor, IndirectBy, SharedReason}
use Rattle.row_laws.specs.Meeting.{Charges, brings, TicksMeet}
use Rattle.row_laws.proofs.Brings.{Window, Hit, hit, Counted, flag_times-passes}
use Rattle.row_laws.proofs.Fifo.{InTurn, holder_in_turn, runs_first}
use Rattle.closer_laws.specs.CloserRows.{is_shared_out}
use Rattle.closer_laws.proofs.LocalResources.{only_there, holder_local}

-- A resource that a job waits for is shared out.
pub shared_where_waiting : (o : Ranks) (w : Trace) (n t j m q : ℕ) → KeepsBefore (shared_rule o) w n → AreLawfulJobs (jobs_of w) → t < n
    → is_ready w t j ≡ false → phase_of w t j ≡ Asking m q → is_shared_out w.set (task_of w j) q ≡ true
shared_where_waiting o w n t j m q keeps lawful l waits asks = elim (cases_Bool (is_shared_out w.set (task_of w j) q)) [
  | inl out ↦ out
  | inr here ↦ absurd (both_ways (is_ready w t j) waits
      (ready_holding w t j (holder_local o w n t j m q keeps lawful l asks (only_there w.set (task_of w j) q here))))
]

pub waits_shared : (o : Ranks) (w : Trace) (n t j y : ℕ) → KeepsBefore (shared_rule o) w n → AreLawfulJobs (jobs_of w) → t < n
    → (a : WaitsFor w t j y) → is_shared_out w.set (task_of w j) a.resource ≡ true
waits_shared o w n t j y keeps lawful l a = shared_where_waiting o w n t j a.number a.resource keeps lawful l a.other a.request

-- The task of the job that it waits for is another one.
pub waits_other : (w : Trace) (t j y : ℕ) → WaitsFor w t j y → (task_of w y ≡ task_of w j) → ⊥
waits_other w t j y a same =
    let holder : ReadyHolder w t y = ready_holder_is w t y a.holds in
    let one : y ≡ j = one_active w t y j holder.active a.active same in
    let ready : is_ready w t j ≡ true = ap (is_ready w t) (sym one) ∙ ready_holding w t y a.holds in
    both_ways (is_ready w t j) a.other ready

-- Job j waits for a job on y's processor, before which y was issued, or which y is.
pub record Held (w : Trace) (t j y : ℕ) : Type 0 where
  pub holder : ℕ
  pub waits : WaitsFor w t j holder
  pub place : processor_of w holder ≡ processor_of w y
  pub order : issue_tick_of w t y ≤ issue_tick_of w t holder

-- Where y runs in place of what j waits for.
abbrev pub held_instead : (w : Trace) (t j y : ℕ) → KeepsRun w t → IndirectBy fmlp_plus w t j y → Held w t j y
held_instead w t j y run why = record {
  holder = why.first;
  waits = why.waits;
  place = run.column (processor_of w why.first) y why.runs;
  order = runs_first w t j y why;
}

pub held_of : (w : Trace) (t j y : ℕ) (c : Class) → KeepsRun w t → is_preemption c ≡ false → SharedReason fmlp_plus w t j c y
    → Held w t j y
held_of w t j y Direct run other why = record { holder = y; waits = why.waits; place = refl; order = omega arith }
held_of w t j y Indirect run other why = held_instead w t j y run why
held_of w t j y Preemption run other why = absurd (cc)

-- So y is in turn.
pub held_in_turn : (w : Trace) (n t j y : ℕ) (ok : ℕ → Bool) → AreLawfulJobs (jobs_of w) → KeepsBefore (shared_rule fmlp_plus) w n
    → t < n → (a : Held w t j y) → ok a.waits.resource ≡ true → InTurn w t j y ok
held_in_turn w n t j y ok lawful keeps l a passes =
    let first : InTurn w t j a.holder ok = holder_in_turn w n t j a.holder ok lawful keeps l a.waits passes in
    record { own = first.own; earlier = omega (arith, first.earlier, a.order) }

-- What runs in place of a holder is another job, of another task, in a request of another resource.
pub other_job : (o : Ranks) (w : Trace) (t j r : ℕ) → (by : IndirectBy o w t j r) → (by.first ≡ r) → ⊥
other_job o w t j r by same =
    let here : runs_in (w.row t) by.first ≡ true = ap (runs_in (w.row t)) same ∙ runs_from (w.row t) (processor_of w by.first) r by.runs in
    both_ways (runs_in (w.row t) by.first) by.stands here

pub other_task : (o : Ranks) (w : Trace) (t j r : ℕ) → (by : IndirectBy o w t j r) → (task_of w by.first ≡ task_of w r) → ⊥
other_task o w t j r by same =
    let first : ReadyHolder w t by.first = ready_holder_is w t by.first by.waits.holds in
    let runner : ReadyHolder w t r = ready_holder_is w t r by.holds in
    other_job o w t j r by (one_active w t by.first r first.active runner.active same)

pub other_resource : (o : Ranks) (w : Trace) (t j r m q : ℕ) → (by : IndirectBy o w t j r) → phase_of w t r ≡ Asking m q
    → (by.waits.resource ≡ q) → ⊥
other_resource o w t j r m q by asks same =
    let runner : ReadyHolder w t r = ready_holder_is w t r by.holds in
    let phases : Asking runner.number runner.resource ≡ Asking m q = sym runner.phase ∙ asks in
    let own : runner.resource ≡ q = cc in
    let both : Some by.first ≡ Some r = sym by.waits.holder ∙ ap (holder_in (w.row t)) (same ∙ sym own) ∙ runner.holds in
    let one : by.first ≡ r = cc in
    other_job o w t j r by one

-- A row that counts no charged tick is met with nothing.
pub never_met : (charges : Charges) (w : Trace) (bound : ℕ → ℕ) (n j : ℕ) (counts : ColumnDef → Bool) → Window charges w bound n j
    → ((t : ℕ) → t < n → Counted charges w counts j t → ⊥) → TicksMeet charges w bound n j (counting counts (λ bounds. 0))
never_met charges w bound n j counts window never s share fair =
    let none : sum_below (window_end w bound n j) (λ t. brings charges w (λ c. flag (counts c) * share c.task c.resource) j t) ≡ 0 =
    sum_below-zero (window_end w bound n j) (λ t. brings charges w (λ c. flag (counts c) * share c.task c.resource) j t)
    (λ t l. each t (omega arith)) in
    omega (arith, none) where
      each : (t : ℕ) → t < n → brings charges w (λ c. flag (counts c) * share c.task c.resource) j t ≡ 0
      each t l = elim (cases_lt 0 (brings charges w (λ c. flag (counts c) * share c.task c.resource) j t)) [
        | inr none ↦ omega arith
        | inl some ↦
            let h : Hit charges w (λ c. flag (counts c) * share c.task c.resource) j t =
            hit charges w (λ c. flag (counts c) * share c.task c.resource) j t some in
            absurd (never t l (record {
              charge = h.charge;
              is_it = h.is_it;
              number = h.number;
              resource = h.resource;
              request = h.request;
              passes = flag_times-passes (counts (record { task = task_of w h.charge.job; resource = h.resource; class = h.charge.class }))
                  (share (task_of w h.charge.job) h.resource) h.some;
            }))
      ]
