-- The ticks of a job's window meet each closer row.
use Rattle.std.proofs.Common.{◌≡◌, ℕ, ◌*◌, ◌<◌, ◌≤◌, List, [], ◌∷◌, arith, inl, inr}
use Rattle.std.specs.Prelude.{slice_index}
use Rattle.std.specs.List.{All}
use Rattle.std.proofs.Math.Nat.{mul-le-mul_left}
use Rattle.std.proofs.lemmas.Bool.{cases_lt}
use Rattle.std.proofs.lemmas.List.Elements.{All-nil, All-cons}
use Rattle.number_laws.specs.Sums.{sum_below}
use Rattle.number_laws.proofs.SumLaws.{sum_below-zero}
use Rattle.schedule_model.specs.JobDef.{job_of}
use Rattle.schedule_model.specs.RowDef.{Trace}
use Rattle.schedule_model.specs.Activity.{task_of}
use Rattle.schedule_model.specs.Ranks.{mpcp}
use Rattle.schedule_model.specs.Protocols.{shared_rule}
use Rattle.schedule_model.specs.Keeping.{KeepsBefore}
use Rattle.schedule_laws.proofs.ActiveJobs.{Active, active_is}
use Rattle.blocking_columns.specs.ColumnDef.{ColumnDef}
use Rattle.fragments.specs.Constraints.{ConstraintDef}
use Rattle.indirect_constraints.specs.Rows.{higher_holdings}
use Rattle.charge_laws.specs.Charges.{shared_charge}
use Rattle.charge_laws.specs.Windows.{window_end, EndedBy}
use Rattle.row_laws.specs.Meeting.{brings, TicksMeet}
use Rattle.row_laws.proofs.Brings.{Window, Hit, hit}
use Rattle.row_laws.proofs.EmptyWindows.{WithinRows, shared_active}
use Rattle.row_laws.proofs.HoldingRow.{high_paid}
use Rattle.row_laws.proofs.Joined.{shared_window}
use Rattle.closer_laws.proofs.LowerRows.{local_preemption_row_met}
use Rattle.closer_mpcp_laws.specs.CloserMpcpRows.{further_rows}
use Rattle.closer_mpcp_laws.proofs.LowerWaits.{lower_wait_row_met}
use Rattle.closer_mpcp_laws.proofs.SharedHoldings.{HigherHeld, shared_holding_row_met, resource_holding_row_met}
use Rattle.closer_mpcp_laws.proofs.AwayHoldings.{away_row_met}
use Rattle.closer_mpcp_laws.proofs.SharedIntervals.{shared_interval_row_met}
use Rattle.closer_mpcp_laws.proofs.FurtherRows.{EachFurther, further_each}

pub further_rows_met : (w : Trace) (bound : ℕ → ℕ) (n j : ℕ) (held : (ℕ → ℕ) → ℕ → ℕ → ℕ) → Window shared_charge w bound n j
    → KeepsBefore (shared_rule mpcp) w n → ((x : ℕ) → HigherHeld w bound n j x held)
    → EachFurther (TicksMeet shared_charge w bound n j) w.set held (task_of w j)
further_rows_met w bound n j held window keeps paid = record {
  holding = λ x a. shared_holding_row_met w bound n j x held window keeps (paid x);
  resource = λ x q a b. resource_holding_row_met w bound n j x q held window keeps (paid x);
  away = λ x a. away_row_met w bound n j x window keeps;
  interval = λ x a lower. shared_interval_row_met w bound n j x window keeps;
  preemption = local_preemption_row_met mpcp w bound n j window keeps;
  wait = lower_wait_row_met w bound n j window keeps;
}

-- If a job's window has no tick within the rows, nothing is charged for it.
nothing_charged : (w : Trace) (bounds : List ℕ) (n j : ℕ) (f : ColumnDef → ℕ)
    → window_end w (slice_index bounds) n j ≤ (job_of w.jobs j).release → (t : ℕ) → t < window_end w (slice_index bounds) n j
    → brings shared_charge w f j t ≡ 0
nothing_charged w bounds n j f empty t l = elim (cases_lt 0 (brings shared_charge w f j t)) [
  | inr none ↦ omega (arith, none)
  | inl some ↦
      let h : Hit shared_charge w f j t = hit shared_charge w f j t some in
      let active : Active w t j = active_is w t j (shared_active w j t h.charge h.is_it) in
      absurd (omega (arith, active.released, l, empty))
]

empty_meets : (w : Trace) (bounds : List ℕ) (n j : ℕ) (rows : List ConstraintDef)
    → window_end w (slice_index bounds) n j ≤ (job_of w.jobs j).release → All (TicksMeet shared_charge w (slice_index bounds) n j) rows
empty_meets w bounds n j [] empty = All-nil (TicksMeet shared_charge w (slice_index bounds) n j)
empty_meets w bounds n j (row ∷ rows) empty =
    All-cons (TicksMeet shared_charge w (slice_index bounds) n j) row rows meets (empty_meets w bounds n j rows empty) where
      meets : TicksMeet shared_charge w (slice_index bounds) n j row
      meets s share fair =
          let f : ColumnDef → ℕ = λ c. row.coefficient c * share c.task c.resource in
          let none : sum_below (window_end w (slice_index bounds) n j) (λ t. brings shared_charge w f j t) ≡ 0 =
          sum_below-zero (window_end w (slice_index bounds) n j) (λ t. brings shared_charge w f j t)
          (λ t l. nothing_charged w bounds n j f empty t l) in
          omega (arith, none)

-- So what the ticks of each other window meet, those of each window meet.
pub met_within : (w : Trace) (bounds : List ℕ) (n j : ℕ) (rows : List ConstraintDef) → WithinRows w bounds n j
    → KeepsBefore (shared_rule mpcp) w n
    → (Window shared_charge w (slice_index bounds) n j → All (TicksMeet shared_charge w (slice_index bounds) n j) rows)
    → All (TicksMeet shared_charge w (slice_index bounds) n j) rows
met_within w bounds n j rows a keeps met = elim (cases_lt (job_of w.jobs j).release (window_end w (slice_index bounds) n j)) [
  | inr empty ↦ empty_meets w bounds n j rows empty
  | inl some ↦
      let ended : EndedBy w (slice_index bounds) (job_of w.jobs j).release =
      λ y listed passed. a.ended y listed (omega (arith, passed, some)) (omega (arith, passed, some)) in
      met (shared_window mpcp w bounds n j (record { formed = a.formed; lawful = a.lawful; listed = a.listed; ended = ended }) keeps)
]

-- If at least those requests count that higher tasks beside x can make while the job runs, the ticks meet all closer rows.
pub further_met : (w : Trace) (bounds : List ℕ) (n j : ℕ) (held : (ℕ → ℕ) → ℕ → ℕ → ℕ) → WithinRows w bounds n j
    → KeepsBefore (shared_rule mpcp) w n
    → ((x q : ℕ) → higher_holdings w.set (slice_index bounds) (task_of w j) x q ≤ held (slice_index bounds) x q)
    → All (TicksMeet shared_charge w (slice_index bounds) n j) (further_rows w.set held (task_of w j))
further_met w bounds n j held a keeps most =
    met_within w bounds n j (further_rows w.set held (task_of w j)) a keeps (λ window.
    further_each (TicksMeet shared_charge w (slice_index bounds) n j) w.set held (task_of w j)
    (further_rows_met w (slice_index bounds) n j held window keeps (λ x s share c q.
    omega (
      arith,
      high_paid w (slice_index bounds) n j x s share q c,
      mul-le-mul_left s (most x q),
    ))))
