-- In a lawful schedule the charged ticks of a job's window are a point of its task's program.
use Rattle.std.proofs.Common.{ℕ, ◌+◌, ◌<◌, ◌≤◌, List, length}
use Rattle.number_laws.specs.Tests.{count_below}
use Rattle.sporadic_model.specs.SetDef.{task_at}
use Rattle.charge_laws.specs.Interferers.{interferes_with_some}
use Rattle.charge_laws.proofs.Interference.{interferes_within_cost}
use Rattle.std.specs.Prelude.{slice_index}
use Rattle.std.specs.List.{All}
use Rattle.sporadic_model.specs.Accepted.{IsFormed}
use Rattle.schedule_model.specs.JobDef.{job_of}
use Rattle.schedule_model.specs.LawfulJobs.{AreLawfulJobs, IsLawfulJob}
use Rattle.schedule_model.specs.RowDef.{Trace, jobs_of}
use Rattle.schedule_model.specs.Activity.{task_of}
use Rattle.schedule_model.specs.Keeping.{KeepsBefore}
use Rattle.schedule_model.specs.BlockedTicks.{is_shared_interference}
use Rattle.schedule_laws.proofs.KindsOfTicks.{Blocked, blocked_is}
use Rattle.charge_laws.specs.Windows.{bound_end, EndedBy, EndedWithin}
use Rattle.row_laws.specs.Meeting.{ChargesActive, TicksMeet}
use Rattle.row_laws.proofs.Brings.{Window}
use Rattle.row_laws.proofs.JobRows.{request_row_met, time_row_met}
use Rattle.row_laws.proofs.Fractions.{rows_are_point}
use Rattle.row_laws.proofs.Joined.{ArePointOf, users_have_lengths, periods_from}
use Rattle.row_laws.proofs.EmptyWindows.{point_within}
use Rattle.program_laws.proofs.RowKinds.{common_each}
use Rattle.spin_rules.specs.SpinRules.{spin_rule}
use Rattle.spin_rules.proofs.SpinFacts.{spin_runs_active}
use Rattle.spin_charging.specs.SpinCharges.{spin_charge}
use Rattle.spin_charging.specs.SpinPrograms.{is_spin_column, spin_columns, spin_rows}
use Rattle.spin_charging.proofs.SpinCharging.{spin_charge_blocked, spin_executes}
use Rattle.spin_charging.proofs.OwnSpinning.{own_spinning_row_met}
use Rattle.spin_charging.proofs.SpunRows.{spinning_row_met, lower_request_row_met}
use Rattle.spin_charging.proofs.SpinPlacement.{spin_requests}
use Rattle.spin_charging.proofs.SpinPrograms.{spin_each}

-- Ticks are charged where the job is active.
pub spin_active : (w : Trace) (j : ℕ) → ChargesActive spin_charge w j
spin_active w j t charge e = let b : Blocked is_shared_interference w t j =
    blocked_is is_shared_interference w t j (spin_charge_blocked w t j charge e) in b.active

pub spin_window : (w : Trace) (bounds : List ℕ) (n j : ℕ) → IsFormed w.set → AreLawfulJobs (jobs_of w) → KeepsBefore spin_rule w n
    → j < length w.jobs → EndedBy w (slice_index bounds) (job_of w.jobs j).release → Window spin_charge w (slice_index bounds) n j
spin_window w bounds n j formed lawful keeps listed ended = record {
  lawful = lawful;
  active = spin_runs_active w n keeps;
  listed = listed;
  ended = ended;
  periods = λ x l. periods_from w.set x formed l;
  executes = λ t c l e. spin_executes w n t j c lawful keeps l e;
  own = λ t c l e. spin_active w j t c e;
}

-- Each row is met.
pub spin_rows_met : (w : Trace) (bound : ℕ → ℕ) (n j : ℕ) → Window spin_charge w bound n j → KeepsBefore spin_rule w n
    → All (TicksMeet spin_charge w bound n j) (spin_rows w.set (task_of w j))
spin_rows_met w bound n j window keeps =
    spin_each (TicksMeet spin_charge w bound n j) w.set (task_of w j)
    (common_each (TicksMeet spin_charge w bound n j) w.set (task_of w j)
    (λ x q a b. request_row_met spin_charge w bound n j x q window a) (λ x a. time_row_met spin_charge w bound n j x window a))
    (lower_request_row_met w bound n j window keeps) (λ k q a b. spinning_row_met w bound n j (k + 1) q window keeps)
    (λ k q a b. own_spinning_row_met w bound n j (k + 1) q window keeps)

-- So the fractions are a point.
pub spin_point : (w : Trace) (bounds : List ℕ) (n j : ℕ) → IsFormed w.set → AreLawfulJobs (jobs_of w) → KeepsBefore spin_rule w n
    → j < length w.jobs → EndedWithin w (slice_index bounds) (bound_end w (slice_index bounds) j) n
    → ArePointOf spin_charge (spin_columns w.set (task_of w j)) (spin_rows w.set (task_of w j)) w bounds n j
spin_point w bounds n j formed lawful keeps listed ended =
    point_within spin_charge (spin_columns w.set (task_of w j)) (spin_rows w.set (task_of w j)) w bounds n j
    (users_have_lengths (is_spin_column w.set (task_of w j)) w.set formed (spin_requests w.set (task_of w j)))
    (spin_active w j) ended (λ before.
    rows_are_point spin_charge (is_spin_column w.set (task_of w j)) (spin_rows w.set (task_of w j)) w bounds n j
    (users_have_lengths (is_spin_column w.set (task_of w j)) w.set formed (spin_requests w.set (task_of w j)))
    (spin_rows_met w (slice_index bounds) n j (spin_window w bounds n j formed lawful keeps listed before) keeps))

-- A lawful job interferes with others at no more ticks than its task's cost.
pub spin_interferes_within : (w : Trace) (n y : ℕ) → KeepsBefore spin_rule w n → IsLawfulJob w.set (job_of w.jobs y)
    → count_below n (λ t. interferes_with_some is_shared_interference w t y) ≤ (task_at w.set (task_of w y)).cost
spin_interferes_within w n y keeps lawful = interferes_within_cost is_shared_interference w n y (spin_runs_active w n keeps) lawful
