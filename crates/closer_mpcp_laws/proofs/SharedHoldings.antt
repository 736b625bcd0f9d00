-- The rows of shared holdings: the holding row over those resources that are shared out and that what runs may be run before. On the waiting
-- job's own processor no lower task holds what it waits for. How many higher tasks hold may be counted in more than one way.
use Rattle.std.proofs.Common.{◌≡◌, ℕ, ◌*◌, ◌<◌, ◌≤◌, ◌==◌, ◌&&◌, not, Bool, true, false, length, refl, sym, ap, ◌∙◌, arith, inl, inr}
use Rattle.std.specs.Option.{option_map_or}
use Rattle.std.proofs.lemmas.Bool.{cases_Bool, and_parts, and_from, eqb-true, ne_eqb, not_from_false}
use Rattle.number_laws.specs.Sums.{sum_below, flag, only_if}
use Rattle.number_laws.proofs.TestLaws.{any_below-from}
use Rattle.sporadic_model.specs.SetDef.{task_at}
use Rattle.sporadic_model.specs.Users.{is_user, length_of}
use Rattle.schedule_model.specs.declared.rule.Rule.TheVariants as rule
use Rattle.schedule_model.specs.JobDef.{job_of}
use Rattle.schedule_model.specs.LawfulJobs.{IsLawfulJob, AreLawfulJobs}
use Rattle.schedule_model.specs.RowDef.{Trace, jobs_of, holder_in}
use Rattle.schedule_model.specs.Phase.{phase_of}
use Rattle.schedule_model.specs.Phase.Phase.{Asking}
use Rattle.schedule_model.specs.Activity.{task_of, processor_of}
use Rattle.schedule_model.specs.SharedRules.{KeepsRun}
use Rattle.schedule_model.specs.Ranks.{mpcp}
use Rattle.schedule_model.specs.Protocols.{shared_rule}
use Rattle.schedule_model.specs.Keeping.{KeepsBefore}
use Rattle.schedule_laws.proofs.Segments.{open_listed, open_resource, open_user}
use Rattle.blocking_columns.specs.ColumnDef.{ColumnDef, is_indirect}
use Rattle.blocking_columns.specs.Columns.{have_one_processor}
use Rattle.charge_laws.specs.Charges.{shared_charge}
use Rattle.charge_laws.specs.Windows.{window_end}
use Rattle.charge_laws.proofs.SharedCharging.{IndirectBy, shared_reason}
use Rattle.row_laws.specs.Meeting.{brings, TicksMeet}
use Rattle.row_laws.proofs.Brings.{Window, Hit, flag_times-at_most, flag_times-passes, only_if-parts}
use Rattle.row_laws.proofs.Holdings.{holding_share, resource_of, own_resource, first_holder}
use Rattle.row_laws.proofs.HoldingParts.{Holding, high_part}
use Rattle.row_laws.proofs.HoldingRow.{HeldWhere, holdings_paid}
use Rattle.row_laws.proofs.Requests.{indirect_is, indirect_by}
use Rattle.row_laws.proofs.SharedPlacement.{mpcp_runs}
use Rattle.closer_laws.specs.CloserRows.{is_shared_out}
use Rattle.closer_laws.proofs.Waits.{waits_shared, other_resource}
use Rattle.closer_mpcp_laws.specs.CloserMpcpRows.{goes_first, goes_before, shared_holding_row, resource_holding_row}
use Rattle.closer_mpcp_laws.proofs.LowerWaits.{waits_not_lower}

-- Why a tick that the row counts is charged.
record Runs (w : Trace) (t j x r : ℕ) : Type 0 where
  task : task_of w r ≡ x
  by : IndirectBy mpcp w t j r

runs_at : (w : Trace) (n t j x : ℕ) (share : ℕ → ℕ → ℕ) → KeepsBefore (shared_rule mpcp) w n → t < n
    → (h : Hit shared_charge w (holding_share x share) j t) → Runs w t j x h.charge.job
runs_at w n t j x share keeps l h =
    let both : ((task_of w h.charge.job == x) ≡ true) × (is_indirect h.charge.class ≡ true) =
    and_parts _ _ (flag_times-passes ((task_of w h.charge.job == x) && is_indirect h.charge.class)
    (share (task_of w h.charge.job) h.resource) h.some) in
    record {
      task = eqb-true _ _ both.0;
      by = indirect_by mpcp w t j h.charge.job h.charge.class (indirect_is h.charge.class both.1)
          (shared_reason mpcp w t j h.charge (keeps t l) h.is_it);
    }

-- What runs may run before the request of what j waits for.
goes_first_there : (w : Trace) (n t j r m q : ℕ) → KeepsBefore (shared_rule mpcp) w n → t < n → (by : IndirectBy mpcp w t j r)
    → phase_of w t r ≡ Asking m q → goes_first w.set (task_of w r) q by.waits.resource ≡ true
goes_first_there w n t j r m q keeps l by asks =
    let run : KeepsRun w t = keeps t l rule.Run in
    and_from _ _
    (not_from_false (q == by.waits.resource) (ne_eqb q by.waits.resource (λ e. other_resource mpcp w t j r m q by asks (sym e))))
    (mpcp_runs w t by.first r by.waits.resource q by.waits.holding m by.waits.held asks (run.column (processor_of w by.first) r by.runs)
    by.order)

-- What j waits for, and who holds it, by the names of the row of holdings.
own_is : (w : Trace) (t j r : ℕ) → (by : IndirectBy mpcp w t j r) → own_resource w j t ≡ by.waits.resource
own_is w t j r by = ap resource_of by.waits.request

first_is : (w : Trace) (t j r : ℕ) → (by : IndirectBy mpcp w t j r) → first_holder w j t ≡ by.first
first_is w t j r by = ap (λ q. option_map_or (λ y. y) (holder_in (w.row t) q) 0) (own_is w t j r by)
    ∙ ap (λ o. option_map_or (λ y. y) o 0) by.waits.holder

-- A lower task that holds it isn't on j's processor, nor is what runs there.
elsewhere : (w : Trace) (n t j x r : ℕ) → KeepsBefore (shared_rule mpcp) w n → AreLawfulJobs (jobs_of w) → t < n → Runs w t j x r
    → task_of w j < task_of w (first_holder w j t) → not (have_one_processor w.set x (task_of w j)) ≡ true
elsewhere w n t j x r keeps lawful l a lower = elim (cases_Bool (have_one_processor w.set x (task_of w j))) [
  | inr off ↦ not_from_false _ off
  | inl here ↦
      let run : KeepsRun w t = keeps t l rule.Run in
      let place : processor_of w a.by.first ≡ processor_of w r = run.column (processor_of w a.by.first) r a.by.runs in
      let same : processor_of w r ≡ processor_of w j =
      ap (λ z. (task_at w.set z).processor) a.task ∙ eqb-true _ _ here in
      let lower_first : task_of w j < task_of w a.by.first = rw (← first_is w t j r a.by) lower in
      absurd (waits_not_lower w n t j a.by.first keeps lawful l a.by.waits (record { lower = lower_first; processor = place ∙ same }))
]

-- So the row counts what is charged while such resources are waited for.
known : (w : Trace) (bound : ℕ → ℕ) (n j x : ℕ) (share : ℕ → ℕ → ℕ) (passes : ℕ → Bool) → Window shared_charge w bound n j
    → KeepsBefore (shared_rule mpcp) w n
    → ((t : ℕ) → t < n → (h : Hit shared_charge w (holding_share x share) j t) → (a : Runs w t j x h.charge.job)
    → passes a.by.waits.resource ≡ true)
    → HeldWhere w bound n j x share (λ r. is_user w.set r (task_of w j) && (is_shared_out w.set (task_of w j) r && passes r))
    (λ r. not (have_one_processor w.set x (task_of w j)))
known w bound n j x share passes window keeps ok = record {
  waited = λ t l h. waited t (omega arith) h;
  lower = λ t l h low. elsewhere w n t j x h.charge.job keeps window.lawful (omega arith)
      (runs_at w n t j x share keeps (omega arith) h) low;
} where
  waited : (t : ℕ) → t < n → (h : Hit shared_charge w (holding_share x share) j t)
      → (is_user w.set (own_resource w j t) (task_of w j) && (is_shared_out w.set (task_of w j) (own_resource w j t)
      && passes (own_resource w j t))) ≡ true
  waited t l h =
      let a : Runs w t j x h.charge.job = runs_at w n t j x share keeps l h in
      rw (own_is w t j h.charge.job a.by) (and_from _ _
      (open_user w.set w t j a.by.waits.number a.by.waits.resource (window.lawful.each j window.listed) a.by.waits.request)
      (and_from _ _ (waits_shared mpcp w n t j a.by.first keeps window.lawful l a.by.waits) (ok t l h a)))

-- Each way to count their holdings beside x will do that pays for what is charged to x indirectly while they hold a resource.
abbrev pub HigherHeld : Trace → (ℕ → ℕ) → ℕ → ℕ → ℕ → ((ℕ → ℕ) → ℕ → ℕ → ℕ) → Type 0
HigherHeld w bound n j x held = (s : ℕ) (share : ℕ → ℕ → ℕ) → Holding w bound n j x s share → (q : ℕ)
    → sum_below (window_end w bound n j) (λ t. high_part w j x share q t) ≤ s * held bound x q

-- The row of shared holdings.
pub shared_holding_row_met : (w : Trace) (bound : ℕ → ℕ) (n j x : ℕ) (held : (ℕ → ℕ) → ℕ → ℕ → ℕ) → Window shared_charge w bound n j
    → KeepsBefore (shared_rule mpcp) w n → HigherHeld w bound n j x held
    → TicksMeet shared_charge w bound n j (shared_holding_row w.set held (task_of w j) x)
shared_holding_row_met w bound n j x held window keeps paid s share fair =
    holdings_paid w bound n j x s share
    (λ r. is_user w.set r (task_of w j) && (is_shared_out w.set (task_of w j) r && goes_before w.set x r))
    (λ r. not (have_one_processor w.set x (task_of w j))) (held bound x) c
    (known w bound n j x share (goes_before w.set x) window keeps passes) (paid s share c) where
      c : Holding w bound n j x s share
      c = record { window = window; keeps = keeps; fair = fair }

      passes : (t : ℕ) → t < n → (h : Hit shared_charge w (holding_share x share) j t) → (a : Runs w t j x h.charge.job)
          → goes_before w.set x a.by.waits.resource ≡ true
      passes t l h a =
          let job : IsLawfulJob w.set (job_of w.jobs h.charge.job) =
          window.lawful.each h.charge.job (open_listed w t h.charge.job h.number h.resource h.request) in
          let first : goes_first w.set x h.resource a.by.waits.resource ≡ true =
          rw (← a.task) (goes_first_there w n t j h.charge.job h.number h.resource keeps l a.by h.request) in
          let user : is_user w.set h.resource x ≡ true =
          rw (← a.task) (open_user w.set w t h.charge.job h.number h.resource job h.request) in
          any_below-from (length w.set.resources) (λ q. is_user w.set q x && goes_first w.set x q a.by.waits.resource) h.resource
          (open_resource w.set w t h.charge.job h.number h.resource job h.request) (and_from _ _ user first)

-- The row of one resource is that of all, where only this resource's requests have a share.
abbrev share_of : ℕ → (ℕ → ℕ → ℕ) → ℕ → ℕ → ℕ
share_of q share y r = only_if (r == q) (share y r)

parted : (a b d : Bool) (n : ℕ) → flag ((a && b) && d) * n ≡ flag (a && d) * only_if b n
parted true true d n = refl
parted true false true n = omega arith
parted true false false n = omega arith
parted false b d n = omega arith

pub resource_holding_row_met : (w : Trace) (bound : ℕ → ℕ) (n j x q : ℕ) (held : (ℕ → ℕ) → ℕ → ℕ → ℕ) → Window shared_charge w bound n j
    → KeepsBefore (shared_rule mpcp) w n → HigherHeld w bound n j x held
    → TicksMeet shared_charge w bound n j (resource_holding_row w.set held (task_of w j) x q)
resource_holding_row_met w bound n j x q held window keeps paid s share fair =
    rw (ap (λ (f : ColumnDef → ℕ). sum_below (window_end w bound n j) (λ t. brings shared_charge w f j t)) same)
    (holdings_paid w bound n j x s (share_of q share)
    (λ r. is_user w.set r (task_of w j) && (is_shared_out w.set (task_of w j) r && goes_first w.set x q r))
    (λ r. not (have_one_processor w.set x (task_of w j))) (held bound x) c
    (known w bound n j x (share_of q share) (goes_first w.set x q) window keeps passes) (paid s (share_of q share) c)) where
      counted : ColumnDef → ℕ
      counted = λ c. flag (((c.task == x) && (c.resource == q)) && is_indirect c.class) * share c.task c.resource

      same : counted ≡ holding_share x (share_of q share)
      same = λ k c. parted (c.task == x) (c.resource == q) (is_indirect c.class) (share c.task c.resource) k

      fair_of : (y r : ℕ) → only_if (r == q) (share y r) * length_of w.set y r ≤ s
      fair_of y r = elim (cases_Bool (r == q)) [
        | inl on ↦ rw on (fair y r)
        | inr off ↦ rw off (omega arith)
      ]

      c : Holding w bound n j x s (share_of q share)
      c = record { window = window; keeps = keeps; fair = λ y r. fair_of y r }

      passes : (t : ℕ) → t < n → (h : Hit shared_charge w (holding_share x (share_of q share)) j t) → (a : Runs w t j x h.charge.job)
          → goes_first w.set x q a.by.waits.resource ≡ true
      passes t l h a =
          let least : 0 < only_if (h.resource == q) (share (task_of w h.charge.job) h.resource) =
          omega (
            arith,
            h.some,
            flag_times-at_most ((task_of w h.charge.job == x) && is_indirect h.charge.class)
                (only_if (h.resource == q) (share (task_of w h.charge.job) h.resource)),
          ) in
          let both : ((h.resource == q) ≡ true) × (0 < share (task_of w h.charge.job) h.resource) =
          only_if-parts (h.resource == q) (share (task_of w h.charge.job) h.resource) least in
          ap (λ z. goes_first w.set z q a.by.waits.resource) (sym a.task)
          ∙ ap (λ z. goes_first w.set (task_of w h.charge.job) z a.by.waits.resource) (sym (eqb-true _ _ both.0))
          ∙ goes_first_there w n t j h.charge.job h.number h.resource keeps l a.by h.request
