-- The fractions of each job's window meet its rows, also if the window has no tick within the rows. Then they are all 0.
use Rattle.std.proofs.Common.{◌≡◌, ℕ, ◌*◌, ◌<◌, ◌≤◌, false, List, length, get_or, refl, arith, inl, inr, Option, Some, None}
use Rattle.std.specs.Prelude.{slice_index}
use Rattle.std.proofs.Math.Nat.{zero-div}
use Rattle.std.proofs.lemmas.Bool.{cases_lt}
use Rattle.number_laws.specs.Sums.{sum_below}
use Rattle.number_laws.proofs.SumLaws.{sum_below-zero}
use Rattle.number_laws.proofs.CountLaws.{count_below-none}
use Rattle.program_form.specs.Program.{ProgramDef, columns, entry}
use Rattle.sporadic_model.specs.Users.{length_of}
use Rattle.sporadic_model.specs.Accepted.{IsFormed}
use Rattle.sporadic_model.specs.declared.ids.Protocol.{Protocol}
use Rattle.sporadic_model.specs.declared.ids.Protocol.TheVariants as protocol
use Rattle.schedule_model.specs.JobDef.{job_of}
use Rattle.schedule_model.specs.LawfulJobs.{AreLawfulJobs}
use Rattle.schedule_model.specs.RowDef.{Trace, jobs_of}
use Rattle.schedule_model.specs.Activity.{task_of}
use Rattle.schedule_model.specs.Ranks.{mpcp, fmlp_plus}
use Rattle.schedule_model.specs.Protocols.{shared_rule, dpcp_rule}
use Rattle.schedule_model.specs.Keeping.{KeepsBefore}
use Rattle.schedule_model.specs.BlockedTicks.{is_shared_interference, is_dpcp_interference}
use Rattle.schedule_laws.proofs.ActiveJobs.{Active, active_is}
use Rattle.schedule_laws.proofs.KindsOfTicks.{Blocked, blocked_is}
use Rattle.blocking_columns.specs.ColumnDef.{ColumnDef}
use Rattle.blocking_columns.specs.Columns.{columns_of}
use Rattle.fragments.specs.Constraints.{ConstraintDef}
use Rattle.program_laws.specs.Programs.{rows_of, program_with}
use Rattle.charge_laws.specs.Charges.{Charge, shared_charge, dpcp_charge}
use Rattle.charge_laws.specs.Windows.{bound_end, window_end, EndedBy, EndedWithin}
use Rattle.charge_laws.specs.Fractions.{charged_column, is_in, ticks_in, product_of_lengths, fraction_of, fractions_of, no_column}
use Rattle.charge_laws.proofs.SharedCharging.{shared_charge_blocked}
use Rattle.charge_laws.proofs.DpcpCharging.{dpcp_charge_blocked}
use Rattle.row_laws.specs.Meeting.{Charges, ChargesActive}
use Rattle.row_laws.proofs.Fractions.{HaveLengths, product_positive}
use Rattle.row_laws.proofs.Joined.{ArePointOf, ArePoint, columns_have_lengths, mpcp_point, fmlp_point, dpcp_point}

-- If a job's window has no tick from its release on, nothing is charged for it.
empty_fraction : (charges : Charges) (w : Trace) (bound : ℕ → ℕ) (n j : ℕ) (cs : List ColumnDef) (c : ColumnDef)
    → ChargesActive charges w j → window_end w bound n j ≤ (job_of w.jobs j).release → fraction_of charges w bound n j cs c ≡ 0
unfolding ticks_in
empty_fraction charges w bound n j cs c only empty =
    let none : ticks_in charges w bound n j c ≡ 0 =
    count_below-none (window_end w bound n j) (λ t. is_in c (charged_column charges w t j)) (λ t l. uncharged t l) in
    let nothing : 0 * product_of_lengths w.set cs ≡ 0 = omega arith in
    rw (none, nothing) (zero-div (length_of w.set c.task c.resource)) where
      uncharged : (t : ℕ) → t < window_end w bound n j → is_in c (charged_column charges w t j) ≡ false
      uncharged t l = go (charges w t j) refl where
        go : (o : Option Charge) → charges w t j ≡ o → is_in c (charged_column charges w t j) ≡ false
        go None e = rw e refl
        go (Some charge) e =
            let active : Active w t j = active_is w t j (only t charge e) in
            absurd (omega (arith, active.released, l, empty))

empty_point : (charges : Charges) (cs : List ColumnDef) (rows : List ConstraintDef) (w : Trace) (bounds : List ℕ) (n j : ℕ)
    → HaveLengths w.set cs → ChargesActive charges w j → window_end w (slice_index bounds) n j ≤ (job_of w.jobs j).release
    → ArePointOf charges cs rows w bounds n j
empty_point charges cs rows w bounds n j have only empty = record {
  positive = product_positive w.set cs have;
  kept = λ r l.
      let none : sum_below (columns program) (λ c. entry program r c * fractions_of charges w (slice_index bounds) n j cs c) ≡ 0 =
      sum_below-zero (columns program) (λ c. entry program r c * fractions_of charges w (slice_index bounds) n j cs c) (λ c b.
      let no : fractions_of charges w (slice_index bounds) n j cs c ≡ 0 =
      empty_fraction charges w (slice_index bounds) n j cs (get_or cs c no_column) only empty in rw no (omega arith)) in
      omega (arith, none);
} where
  program : ProgramDef
  program = program_with w.set cs rows bounds

-- If the window has a tick from the release on, the release is a tick within the rows before the bound's end. So each job whose bound has
-- passed by then has ended.
pub point_within : (charges : Charges) (cs : List ColumnDef) (rows : List ConstraintDef) (w : Trace) (bounds : List ℕ) (n j : ℕ)
    → HaveLengths w.set cs → ChargesActive charges w j
    → EndedWithin w (slice_index bounds) (bound_end w (slice_index bounds) j) n
    → (EndedBy w (slice_index bounds) (job_of w.jobs j).release → ArePointOf charges cs rows w bounds n j)
    → ArePointOf charges cs rows w bounds n j
point_within charges cs rows w bounds n j have only ended point =
    elim (cases_lt (job_of w.jobs j).release (window_end w (slice_index bounds) n j)) [
      | inl some ↦ point (λ l listed passed. ended l listed (omega (arith, passed, some)) (omega (arith, passed, some)))
      | inr empty ↦ empty_point charges cs rows w bounds n j have only empty
    ]

point_anyway : (charges : Charges) (p : Protocol) (w : Trace) (bounds : List ℕ) (n j : ℕ) → IsFormed w.set
    → ChargesActive charges w j → EndedWithin w (slice_index bounds) (bound_end w (slice_index bounds) j) n
    → (EndedBy w (slice_index bounds) (job_of w.jobs j).release → ArePoint charges p w bounds n j)
    → ArePoint charges p w bounds n j
point_anyway charges p w bounds n j formed only ended point =
    point_within charges (columns_of p w.set (task_of w j)) (rows_of p w.set (task_of w j)) w bounds n j
    (columns_have_lengths p w.set (task_of w j) formed) only ended point

pub shared_active : (w : Trace) (j : ℕ) → ChargesActive shared_charge w j
shared_active w j t charge e = let b : Blocked is_shared_interference w t j =
    blocked_is is_shared_interference w t j (shared_charge_blocked w t j charge e) in b.active

pub dpcp_active : (w : Trace) (j : ℕ) → ChargesActive dpcp_charge w j
dpcp_active w j t charge e = let b : Blocked is_dpcp_interference w t j =
    blocked_is is_dpcp_interference w t j (dpcp_charge_blocked w t j charge e) in b.active

-- The premises of the laws of rows, for a schedule of n rows.
pub record WithinRows (w : Trace) (bounds : List ℕ) (n j : ℕ) : Type 0 where
  pub formed : IsFormed w.set
  pub lawful : AreLawfulJobs (jobs_of w)
  pub listed : j < length w.jobs
  pub ended : EndedWithin w (slice_index bounds) (bound_end w (slice_index bounds) j) n

pub mpcp_point_within : (w : Trace) (bounds : List ℕ) (n j : ℕ) → WithinRows w bounds n j → KeepsBefore (shared_rule mpcp) w n
    → ArePoint shared_charge protocol.Mpcp w bounds n j
mpcp_point_within w bounds n j premises keeps =
    point_anyway shared_charge protocol.Mpcp w bounds n j premises.formed (shared_active w j) premises.ended
    (λ ended. mpcp_point w bounds n j
    (record { formed = premises.formed; lawful = premises.lawful; listed = premises.listed; ended = ended }) keeps)

pub fmlp_point_within : (w : Trace) (bounds : List ℕ) (n j : ℕ) → WithinRows w bounds n j → KeepsBefore (shared_rule fmlp_plus) w n
    → ArePoint shared_charge protocol.FmlpPlus w bounds n j
fmlp_point_within w bounds n j premises keeps =
    point_anyway shared_charge protocol.FmlpPlus w bounds n j premises.formed (shared_active w j) premises.ended
    (λ ended. fmlp_point w bounds n j
    (record { formed = premises.formed; lawful = premises.lawful; listed = premises.listed; ended = ended }) keeps)

pub dpcp_point_within : (w : Trace) (bounds : List ℕ) (n j : ℕ) → WithinRows w bounds n j → KeepsBefore dpcp_rule w n
    → ArePoint dpcp_charge protocol.Dpcp w bounds n j
dpcp_point_within w bounds n j premises keeps =
    point_anyway dpcp_charge protocol.Dpcp w bounds n j premises.formed (dpcp_active w j) premises.ended
    (λ ended. dpcp_point w bounds n j
    (record { formed = premises.formed; lawful = premises.lawful; listed = premises.listed; ended = ended }) keeps)
