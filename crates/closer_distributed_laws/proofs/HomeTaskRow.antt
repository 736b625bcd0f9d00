-- The row of home tasks: what a job waits for at a processor of that processor's own tasks was open when its request was issued, and is one
-- request. Where the processor is the job's own there is none, since the job itself is the one task of it that is in such a request.
use Rattle.std.proofs.Common.{◌≡◌, ℕ, ◌<◌, ◌≤◌, ◌*◌, ◌==◌, ◌&&◌, not, true, false, sym, ap, ◌∙◌, arith, inl, inr}
use Rattle.std.proofs.lemmas.Bool.{cases_Bool, both_ways, and_parts, eqb-true, eq-eqb, not-true}
use Rattle.number_laws.specs.Sums.{sum_below, flag}
use Rattle.sporadic_model.specs.Users.{length_of}
use Rattle.sporadic_model.specs.Homes.{home_in}
use Rattle.schedule_model.specs.JobDef.{job_of}
use Rattle.schedule_model.specs.LawfulJobs.{is_script}
use Rattle.schedule_model.specs.RowDef.{Trace, runs_in}
use Rattle.schedule_model.specs.Phase.{phase_of}
use Rattle.schedule_model.specs.Phase.Phase.{Asking}
use Rattle.schedule_model.specs.Activity.{task_of, processor_of}
use Rattle.schedule_model.specs.DpcpRules.{home_of}
use Rattle.schedule_laws.proofs.ActiveJobs.{active_listed}
use Rattle.schedule_laws.proofs.Holders.{open_active}
use Rattle.schedule_laws.proofs.Rows.{runs_from}
use Rattle.blocking_columns.specs.declared.columns.Class.{Class}
use Rattle.blocking_columns.specs.ColumnDef.{ColumnDef, is_preemption}
use Rattle.blocking_columns.specs.Windows.{requests_at}
use Rattle.charge_laws.specs.Charges.{dpcp_charge}
use Rattle.charge_laws.specs.Windows.{window_end}
use Rattle.charge_laws.proofs.DpcpCharging.{HomeBlocked, RunsAtHomesBefore, home_reason}
use Rattle.row_laws.specs.Meeting.{brings, TicksMeet}
use Rattle.row_laws.proofs.Brings.{Window, Hit, Counted, column_with, flag_times-at_most, flag_times-passes}
use Rattle.row_laws.proofs.SlotRow.{OneRequest}
use Rattle.row_laws.proofs.Numbers.{by_number}
use Rattle.row_laws.proofs.HomeRow.{home_blocked, runner_resource}
use Rattle.closer_laws.proofs.Waits.{never_met}
use Rattle.closer_distributed_laws.specs.CloserRows.{is_home_wait, home_task_row}
use Rattle.closer_distributed_laws.proofs.OneHome.{AsksAt, asks_at_between, open_throughout, one_home}

-- Job j waits at processor k, where a request of job y runs.
pub record WaitsBeside (w : Trace) (t k j y : ℕ) : Type 0 where
  pub own : AsksAt w t k j
  pub other : AsksAt w t k y
  pub waits : runs_in (w.row t) j ≡ false
  pub runs : runs_in (w.row t) y ≡ true

pub waits_beside : (w : Trace) (t k j y m q : ℕ) → HomeBlocked w t j y → phase_of w t y ≡ Asking m q → home_of w q ≡ k
    → WaitsBeside w t k j y
waits_beside w t k j y m q b asks home =
    let resource : b.runner.resource ≡ q = runner_resource w t (home_of w b.resource) y m q b.runner asks in
    let there : home_of w b.runner.resource ≡ k = ap (home_of w) resource ∙ home in
    record {
      own = record {
        active = b.active;
        number = b.number;
        resource = b.resource;
        request = b.request;
        home = sym b.runner.home ∙ there;
      };
      other = record {
        active = b.runner.active;
        number = b.runner.number;
        resource = b.runner.resource;
        request = b.runner.request;
        home = there;
      };
      waits = b.waits;
      runs = runs_from (w.row t) (home_of w b.resource) y b.runner.runs;
    }

-- On its own processor a job never waits for a request of a task of it.
pub never_at_home : (w : Trace) (bound : ℕ → ℕ) (n t k j y : ℕ) → Window dpcp_charge w bound n j → RunsAtHomesBefore w n → t < n
    → WaitsBeside w t k j y → processor_of w y ≡ k → processor_of w j ≡ k → ⊥
never_at_home w bound n t k j y window homes l a own here =
    let one : y ≡ j = one_home w n t k y j homes window.lawful l a.other a.own own here in
    both_ways (runs_in (w.row t) j) a.waits (ap (runs_in (w.row t)) (sym one) ∙ a.runs)

-- What the row counts is of a task of k, waited for at k.
record OfHome (w : Trace) (k y q : ℕ) (c : Class) : Type 0 where
  task : processor_of w y ≡ k
  class : is_preemption c ≡ false
  home : home_of w q ≡ k

of_home : (w : Trace) (k y q : ℕ) (c : Class) → is_home_wait w.set k (record { task = task_of w y; resource = q; class = c }) ≡ true
    → OfHome w k y q c
of_home w k y q c h =
    let parts : ((processor_of w y == k) ≡ true) × ((not (is_preemption c) && (home_in w.set q == k)) ≡ true) = and_parts _ _ h in
    let rest : (not (is_preemption c) ≡ true) × ((home_in w.set q == k) ≡ true) = and_parts _ _ parts.1 in
    record { task = eqb-true _ _ parts.0; class = not-true _ rest.0; home = eqb-true _ _ rest.1 }

-- On another processor each request pays for one.
away_row_met : (w : Trace) (bound : ℕ → ℕ) (n j k s : ℕ) (share : ℕ → ℕ → ℕ) → Window dpcp_charge w bound n j → RunsAtHomesBefore w n
    → ((x q : ℕ) → share x q * length_of w.set x q ≤ s)
    → sum_below (window_end w bound n j) (λ t. brings dpcp_charge w (λ c. flag (is_home_wait w.set k c) * share c.task c.resource) j t)
    ≤ s * requests_at w.set (task_of w j) k
away_row_met w bound n j k s share window homes fair =
    by_number dpcp_charge w bound n j s share f (λ q. home_in w.set q == k) window
    (record { fair = fair; small = λ c. flag_times-at_most (is_home_wait w.set k c) (share c.task c.resource) })
    (λ t l h. let a : AsksAt w t k j = (beside t (omega arith) h).own in
    record { number = a.number; resource = a.resource; request = a.request; passes = eq-eqb (home_of w a.resource) k a.home })
    one where
      f : ColumnDef → ℕ
      f = λ c. flag (is_home_wait w.set k c) * share c.task c.resource

      column : (t : ℕ) → (h : Hit dpcp_charge w f j t) → OfHome w k h.charge.job h.resource h.charge.class
      column t h =
          of_home w k h.charge.job h.resource h.charge.class
          (flag_times-passes (is_home_wait w.set k (column_with w h.charge h.resource)) (share (task_of w h.charge.job) h.resource) h.some)

      beside : (t : ℕ) → t < n → (h : Hit dpcp_charge w f j t) → WaitsBeside w t k j h.charge.job
      beside t l h =
          waits_beside w t k j h.charge.job h.number h.resource
          (home_blocked w t j h.charge.job h.charge.class (column t h).class (home_reason w t j h.charge (homes t l) h.is_it)) h.request
          (column t h).home

      one : (u v m a b : ℕ) → u ≤ v → v < window_end w bound n j → (g : Hit dpcp_charge w f j u) → (h : Hit dpcp_charge w f j v)
          → phase_of w u j ≡ Asking m a → phase_of w v j ≡ Asking m b → OneRequest w u v g.charge.job h.charge.job
      one u v m a b order l g h early late =
          let first : WaitsBeside w u k j g.charge.job = beside u (omega arith) g in
          let last : WaitsBeside w v k j h.charge.job = beside v (omega arith) h in
          let script : is_script (job_of w.jobs h.charge.job).script ≡ true =
          (window.lawful.each h.charge.job (active_listed w v h.charge.job last.other.active)).script in
          let x : Asking m a ≡ Asking first.own.number first.own.resource = sym early ∙ first.own.request in
          let resource : a ≡ first.own.resource = cc in
          let opened : phase_of w u h.charge.job ≡ Asking last.other.number last.other.resource =
          open_throughout w n u v k j h.charge.job last.other.number last.other.resource homes order (omega arith) script
          (λ t from before. asks_at_between w u t v k j m a b first.own.active early late (ap (home_of w) resource ∙ first.own.home) from
          (omega arith))
          (column v h).task last.other.request in
          let job : g.charge.job ≡ h.charge.job =
          one_home w n u k g.charge.job h.charge.job homes window.lawful (omega arith) first.other
          (record {
            active = open_active w n u h.charge.job last.other.number last.other.resource window.active (omega arith) script opened;
            number = last.other.number;
            resource = last.other.resource;
            request = opened;
            home = last.other.home;
          })
          (column u g).task (column v h).task in
          record { job = job; phase = ap (phase_of w u) job ∙ opened ∙ sym last.other.request }

-- The row of home tasks.
pub home_task_row_met : (w : Trace) (bound : ℕ → ℕ) (n j k : ℕ) → Window dpcp_charge w bound n j → RunsAtHomesBefore w n
    → TicksMeet dpcp_charge w bound n j (home_task_row w.set (task_of w j) k)
home_task_row_met w bound n j k window homes s share fair = elim (cases_Bool (k == processor_of w j)) [
  | inr away ↦ rw away (away_row_met w bound n j k s share window homes fair)
  | inl here ↦ rw here (never_met dpcp_charge w bound n j (is_home_wait w.set k) window (λ t l c. never (eqb-true _ _ here) t l c) s share fair)
] where
  never : k ≡ processor_of w j → (t : ℕ) → t < n → Counted dpcp_charge w (is_home_wait w.set k) j t → ⊥
  never here t l c =
      let a : OfHome w k c.charge.job c.resource c.charge.class = of_home w k c.charge.job c.resource c.charge.class c.passes in
      let b : WaitsBeside w t k j c.charge.job =
      waits_beside w t k j c.charge.job c.number c.resource
      (home_blocked w t j c.charge.job c.charge.class a.class (home_reason w t j c.charge (homes t l) c.is_it)) c.request a.home in
      never_at_home w bound n t k j c.charge.job window homes l b a.task (sym here)
