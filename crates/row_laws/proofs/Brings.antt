-- What a tick contributes to a row: the amount of the column in which it is charged.
use Rattle.std.proofs.Common.{◌≡◌, ℕ, ◌*◌, ◌<◌, ◌≤◌, ◌==◌, Bool, true, false, length, refl, arith, inl, inr, Option, Some, None}
use Rattle.std.specs.Option.{option_and_then, option_map_or}
use Rattle.std.proofs.lemmas.Bool.{cases_lt, cases_Bool, both_ways, eqb-true}
use Rattle.number_laws.specs.Sums.{sum_below, flag, only_if}
use Rattle.number_laws.specs.Tests.{count_below}
use Rattle.number_laws.proofs.SumLaws.{sum_below-zero}
use Rattle.number_laws.proofs.SlotLaws.{sum_below-by_slot}
use Rattle.sporadic_model.specs.SetDef.{task_at}
use Rattle.schedule_model.specs.JobDef.{job_of}
use Rattle.schedule_model.specs.LawfulJobs.{AreLawfulJobs}
use Rattle.schedule_model.specs.RowDef.{Trace, jobs_of}
use Rattle.schedule_model.specs.Phase.{Phase, phase_of}
use Rattle.schedule_model.specs.Phase.Phase.{Local, Asking, Finished}
use Rattle.schedule_model.specs.Activity.{task_of, is_active}
use Rattle.schedule_laws.specs.Agreement.{RunsActiveBefore}
use Rattle.blocking_columns.specs.ColumnDef.{ColumnDef}
use Rattle.charge_laws.specs.Charges.{Charge, Executes}
use Rattle.charge_laws.specs.Windows.{EndedBy}
use Rattle.charge_laws.specs.Fractions.{column_in}
use Rattle.row_laws.specs.Meeting.{Charges, brought, brings}

-- What is known of a schedule of n rows and of job j in it, whatever the protocol.
pub record Window (charges : Charges) (w : Trace) (bound : ℕ → ℕ) (n j : ℕ) : Type 0 where
  pub lawful : AreLawfulJobs (jobs_of w)
  pub active : RunsActiveBefore w n
  pub listed : j < length w.jobs
  pub ended : EndedBy w bound (job_of w.jobs j).release
  pub periods : (x : ℕ) → x < length w.set.tasks → 0 < (task_at w.set x).period
  pub executes : (t : ℕ) (c : Charge) → t < n → charges w t j ≡ Some c → Executes w t c
  pub own : (t : ℕ) (c : Charge) → t < n → charges w t j ≡ Some c → is_active w t j ≡ true

-- A request of resource q by the charged job, with the charge's class.
abbrev pub column_with : Trace → Charge → ℕ → ColumnDef
column_with w charge q = record { task = task_of w charge.job; resource = q; class = charge.class }

-- A tick that contributes something.
pub record Hit (charges : Charges) (w : Trace) (f : ColumnDef → ℕ) (j t : ℕ) : Type 0 where
  pub charge : Charge
  pub is_it : charges w t j ≡ Some charge
  pub number : ℕ
  pub resource : ℕ
  pub request : phase_of w t charge.job ≡ Asking number resource
  pub some : 0 < f (column_with w charge resource)
  pub amount : brings charges w f j t ≡ f (column_with w charge resource)

hit_phase : (charges : Charges) (w : Trace) (f : ColumnDef → ℕ) (j t : ℕ) (c : Charge) → charges w t j ≡ Some c → (p : Phase)
    → phase_of w t c.job ≡ p → 0 < brought f (column_in w c p) → Hit charges w f j t
hit_phase charges w f j t c e (Asking m q) h some =
    record { charge = c; is_it = e; number = m; resource = q; request = h; some = some; amount = rw (e, h) refl }
hit_phase charges w f j t c e Local h some = absurd (omega arith)
hit_phase charges w f j t c e Finished h some = absurd (omega arith)

hit_charge : (charges : Charges) (w : Trace) (f : ColumnDef → ℕ) (j t : ℕ) (o : Option Charge) → charges w t j ≡ o
    → 0 < brought f (option_and_then (λ c. column_in w c (phase_of w t c.job)) o) → Hit charges w f j t
hit_charge charges w f j t None e some = absurd (omega arith)
hit_charge charges w f j t (Some c) e some = hit_phase charges w f j t c e (phase_of w t c.job) refl some

-- A tick that contributes something is charged to a request, in whose column something counts.
pub hit : (charges : Charges) (w : Trace) (f : ColumnDef → ℕ) (j t : ℕ) → 0 < brings charges w f j t → Hit charges w f j t
hit charges w f j t some = hit_charge charges w f j t (charges w t j) refl some

-- A tick that a row counts: it is charged to a request whose column passes.
pub record Counted (charges : Charges) (w : Trace) (counts : ColumnDef → Bool) (j t : ℕ) : Type 0 where
  pub charge : Charge
  pub is_it : charges w t j ≡ Some charge
  pub number : ℕ
  pub resource : ℕ
  pub request : phase_of w t charge.job ≡ Asking number resource
  pub passes : counts (column_with w charge resource) ≡ true

-- The job to which a tick is charged; 0 where there is none.
abbrev pub blocker : Charges → Trace → ℕ → ℕ → ℕ
blocker charges w j t = option_map_or (λ c. c.job) (charges w t j) 0

pub blocker_is : (charges : Charges) (w : Trace) (f : ColumnDef → ℕ) (j t : ℕ) → (h : Hit charges w f j t)
    → blocker charges w j t ≡ h.charge.job
blocker_is charges w f j t h = rw h.is_it refl

-- A flag times a number is at most the number, and is above 0 only if the test passes.
pub flag_times-at_most : (b : Bool) (n : ℕ) → flag b * n ≤ n
flag_times-at_most true n = omega arith
flag_times-at_most false n = omega arith

pub flag_times-passes : (b : Bool) (n : ℕ) → 0 < flag b * n → b ≡ true
flag_times-passes true n h = refl
flag_times-passes false n h = absurd (omega arith)

-- A term that counts only if a test passes, and does.
pub only_if-parts : (b : Bool) (n : ℕ) → 0 < only_if b n → (b ≡ true) × (0 < n)
only_if-parts true n h = (refl, h)
only_if-parts false n h = absurd (omega arith)

slot_sum : (n m c : ℕ) (slot f : ℕ → ℕ) (p : ℕ → Bool) → ((u : ℕ) → u < n → 0 < f u → p (slot u) ≡ true)
    → ((k : ℕ) → k < m → p k ≡ true → sum_below n (λ u. only_if (slot u == k) (f u)) ≤ c)
    → (k : ℕ) → k < m → sum_below n (λ u. only_if (slot u == k) (f u)) ≤ flag (p k) * c
slot_sum n m c slot f p passes most k b = elim (cases_Bool (p k)) [
  | inl passes_here ↦ rw passes_here (omega (arith, most k b passes_here))
  | inr fails ↦
      let none : sum_below n (λ u. only_if (slot u == k) (f u)) ≡ 0 =
      sum_below-zero n (λ u. only_if (slot u == k) (f u)) (λ u l. zero_term u l fails) in
      rw fails (omega arith)
] where
  zero_term : (u : ℕ) → u < n → p k ≡ false → only_if (slot u == k) (f u) ≡ 0
  zero_term u l fails = elim (cases_lt 0 (only_if (slot u == k) (f u))) [
    | inr none ↦ omega arith
    | inl some ↦
        let parts : ((slot u == k) ≡ true) × (0 < f u) = only_if-parts (slot u == k) (f u) some in
        let here : p (slot u) ≡ true = passes u l parts.1 in
        let same : slot u ≡ k = eqb-true (slot u) k parts.0 in
        absurd (both_ways (p k) fails (rw (← same) here))
  ]

-- Let each term that counts have a slot below m that passes a test. Let the terms of one slot sum to at most c. Then the whole is at most c
-- for each slot that passes.
pub sum_below-passing : (n m c : ℕ) (slot f : ℕ → ℕ) (p : ℕ → Bool) → ((u : ℕ) → u < n → 0 < f u → (slot u < m) × (p (slot u) ≡ true))
    → ((k : ℕ) → k < m → p k ≡ true → sum_below n (λ u. only_if (slot u == k) (f u)) ≤ c) → sum_below n f ≤ count_below m p * c
sum_below-passing n m c slot f p within most =
    sum_below-by_slot n m c slot f p (λ u l some. (within u l some).0)
    (λ k l. slot_sum n m c slot f p (λ u b some. (within u b some).1) most k l)
