-- Programs over any columns and rows analyse a protocol if its blocked ticks are charged in the columns and meet the rows. Those of MPCP,
-- FMLP+ and DPCP are instances.
use Rattle.std.proofs.Common.{ℕ, ◌<◌, ◌≤◌, Bool, true, List, length, subst, sym, refl, arith, ◌≡◌, map}
use Rattle.std.specs.Prelude.{slice_index}
use Rattle.number_laws.specs.Tests.{count_below}
use Rattle.program_form.specs.Duals.{Covers, dual_value}
use Rattle.sporadic_model.specs.SetDef.{SetDef, task_at}
use Rattle.sporadic_model.specs.Accepted.{IsFormed, TaskOrder}
use Rattle.sporadic_model.specs.declared.ids.Protocol.TheVariants as protocol
use Rattle.schedule_model.specs.JobDef.{job_of}
use Rattle.schedule_model.specs.LawfulJobs.{AreLawfulJobs, IsLawfulJob}
use Rattle.schedule_model.specs.RowDef.{Trace, jobs_of}
use Rattle.schedule_model.specs.Activity.{task_of}
use Rattle.schedule_model.specs.BlockedTicks.{is_shared_interference, is_dpcp_interference, is_blocked}
use Rattle.schedule_model.specs.Keeping.{KeepsBefore}
use Rattle.schedule_model.specs.Ranks.{mpcp, fmlp_plus}
use Rattle.schedule_model.specs.Protocols.{shared_rule, dpcp_rule}
use Rattle.schedule_model.specs.declared.rule.Rule.{Rule}
use Rattle.program_sources.specs.Recurrence.{SourceDef, source_at}
use Rattle.blocking_columns.specs.ColumnDef.{ColumnDef}
use Rattle.blocking_columns.specs.Columns.{columns_of}
use Rattle.fragments.specs.Constraints.{ConstraintDef}
use Rattle.program_laws.specs.Programs.{rows_of, program_with, interfering_cost, source_of, cost_of}
use Rattle.charge_laws.specs.Charges.{shared_charge, dpcp_charge}
use Rattle.charge_laws.specs.ChargedTicks.{IsCharged}
use Rattle.charge_laws.specs.Interferers.{interferes_with_some}
use Rattle.charge_laws.specs.Windows.{bound_end, window_end, EndedWithin}
use Rattle.row_laws.specs.Meeting.{Charges}
use Rattle.row_laws.proofs.Joined.{ArePointOf}
use Rattle.row_laws.proofs.ChargedTicks.{charged_bounded, mpcp_is_charged, fmlp_is_charged, dpcp_is_charged}
use Rattle.row_laws.proofs.EmptyWindows.{WithinRows, mpcp_point_within, fmlp_point_within, dpcp_point_within}
use Rattle.row_laws.proofs.InterferingCosts.{mpcp_interferes_within, fmlp_interferes_within, dpcp_interferes_within}
use Rattle.soundness_laws.specs.Sound.{IsLawfulSchedule}
use Rattle.soundness_laws.specs.Analyses.{Analyses}
use Rattle.program_form.specs.Points.{IsScaledPoint}
use Rattle.charge_laws.specs.Fractions.{product_of_lengths, fractions_of}

-- What is asked of a protocol for its programs, on sets that suit it. No interfering cost is above the cost, and a job interferes within
-- it. The columns are worth their requests' lengths. The fractions of a window are a point of the program. Each blocked tick is charged in
-- one of the columns.
pub record Owed (keeps : Rule → Trace → ℕ → Type 0) (interferes : Trace → ℕ → ℕ → Bool) (suits : SetDef → Type 0) (source : SetDef
    → SourceDef) (charges : Charges) (columns : SetDef → ℕ → List ColumnDef) : Type 0 where
  pub most : (set : SetDef) (h : ℕ) → suits set → IsFormed set → h < length set.tasks → (source set).interfering h ≤ (task_at set h).cost
  pub interfering : (w : Trace) (n y : ℕ) → suits w.set → KeepsBefore keeps w n → IsLawfulJob w.set (job_of w.jobs y)
      → count_below n (λ t. interferes_with_some interferes w t y) ≤ (source w.set).interfering (task_of w y)
  pub worth : (set : SetDef) (i : ℕ) (bounds : List ℕ) → suits set → i < length set.tasks
      → ((source set).program i bounds).costs ≡ map (cost_of set) (columns set i)
  pub point : (w : Trace) (bounds : List ℕ) (n j : ℕ) → suits w.set → WithinRows w bounds n j → KeepsBefore keeps w n
      → IsScaledPoint ((source w.set).program (task_of w j) bounds) (product_of_lengths w.set (columns w.set (task_of w j)))
      (fractions_of charges w (slice_index bounds) n j (columns w.set (task_of w j)))
  pub charged : (w : Trace) (n t j : ℕ) → suits w.set → AreLawfulJobs (jobs_of w) → KeepsBefore keeps w n → t < n
      → is_blocked interferes w t j ≡ true → IsCharged charges (columns w.set (task_of w j)) w t j

-- Then they analyse it.
pub analyses_of : (keeps : Rule → Trace → ℕ → Type 0) (interferes : Trace → ℕ → ℕ → Bool) (suits : SetDef → Type 0) (source : SetDef
    → SourceDef) (charges : Charges) (columns : SetDef → ℕ → List ColumnDef) (set : SetDef)
    → Owed keeps interferes suits source charges columns → IsFormed set → suits set
    → Analyses keeps interferes (source_at source set)
analyses_of keeps interferes suits source charges columns set owed formed suit = record {
  most = λ h l. owed.most set h suit formed l;
  interfering = λ w n y s l.
      subst (λ of. count_below n (λ t. interferes_with_some interferes w t y) ≤ (source of).interfering (task_of w y)) s.set_is
      (owed.interfering w n y (subst suits (sym s.set_is) suit) s.rows (s.jobs.each y l));
  blocked = λ w bounds n j den num s l ended. subst (λ of. Bounded w bounds n j den num of) s.set_is (here w bounds n j den num s l ended);
} where
  Bounded : Trace → List ℕ → ℕ → ℕ → ℕ → (ℕ → ℕ) → SetDef → Type 0
  Bounded w bounds n j den num of =
      Covers ((source of).program (task_of w j) bounds) den num
      → count_below (window_end w (slice_index bounds) n j) (λ t. is_blocked interferes w t j)
      ≤ dual_value ((source of).program (task_of w j) bounds) den num

  here : (w : Trace) (bounds : List ℕ) (n j den : ℕ) (num : ℕ → ℕ) → IsLawfulSchedule keeps set w n → j < length w.jobs
      → EndedWithin w (slice_index bounds) (bound_end w (slice_index bounds) j) n → Bounded w bounds n j den num w.set
  here w bounds n j den num s l ended =
      let premises : WithinRows w bounds n j =
      record { formed = subst IsFormed (sym s.set_is) formed; lawful = s.jobs; listed = l; ended = ended } in
      let of : suits w.set = subst suits (sym s.set_is) suit in
      charged_bounded charges interferes w bounds n j den num ((source w.set).program (task_of w j) bounds)
      (columns w.set (task_of w j)) (owed.worth w.set (task_of w j) bounds of (s.jobs.each j l).task)
      (owed.point w bounds n j of premises s.rows) (λ t b blocked. owed.charged w n t j of s.jobs s.rows b blocked)

-- The programs over columns and rows that each set and task has, whatever the set.
abbrev pub source_over : (SetDef → ℕ → List ColumnDef) → (SetDef → ℕ → List ConstraintDef) → (SetDef → ℕ → ℕ) → SetDef → SourceDef
source_over columns rows cost set =
    record { set = set; program = λ i bounds. program_with set (columns set i) (rows set i) bounds; interfering = cost set }

pub record OwedOver (keeps : Rule → Trace → ℕ → Type 0) (interferes : Trace → ℕ → ℕ → Bool) (charges : Charges) (columns : SetDef → ℕ
    → List ColumnDef) (rows : SetDef → ℕ → List ConstraintDef) (cost : SetDef → ℕ → ℕ) : Type 0 where
  pub most : (set : SetDef) (h : ℕ) → IsFormed set → h < length set.tasks → cost set h ≤ (task_at set h).cost
  pub interfering : (w : Trace) (n y : ℕ) → KeepsBefore keeps w n → IsLawfulJob w.set (job_of w.jobs y)
      → count_below n (λ t. interferes_with_some interferes w t y) ≤ cost w.set (task_of w y)
  pub point : (w : Trace) (bounds : List ℕ) (n j : ℕ) → WithinRows w bounds n j → KeepsBefore keeps w n
      → ArePointOf charges (columns w.set (task_of w j)) (rows w.set (task_of w j)) w bounds n j
  pub charged : (w : Trace) (n t j : ℕ) → AreLawfulJobs (jobs_of w) → KeepsBefore keeps w n → t < n → is_blocked interferes w t j ≡ true
      → IsCharged charges (columns w.set (task_of w j)) w t j

pub analyses_over : (keeps : Rule → Trace → ℕ → Type 0) (interferes : Trace → ℕ → ℕ → Bool) (charges : Charges) (columns : SetDef → ℕ
    → List ColumnDef) (rows : SetDef → ℕ → List ConstraintDef) (cost : SetDef → ℕ → ℕ) (set : SetDef)
    → OwedOver keeps interferes charges columns rows cost → IsFormed set
    → Analyses keeps interferes (source_over columns rows cost set)
analyses_over keeps interferes charges columns rows cost set owed formed =
    analyses_of keeps interferes (λ of. Unit {0}) (source_over columns rows cost) charges columns set
    (record {
      most = λ of h suits a l. owed.most of h a l;
      interfering = λ w n y suits rows job. owed.interfering w n y rows job;
      worth = λ of i bounds suits l. refl;
      point = λ w bounds n j suits premises rows. owed.point w bounds n j premises rows;
      charged = λ w n t j suits jobs rows l blocked. owed.charged w n t j jobs rows l blocked;
    })
    formed tt

-- The local limit of a task is no more than its cost.
pub local_at_most : (set : SetDef) (h : ℕ) → IsFormed set → h < length set.tasks → (task_at set h).local ≤ (task_at set h).cost
local_at_most set h formed l = let numbers : TaskOrder set h = formed.numbers h l in numbers.local_to

pub mpcp_analyses : (set : SetDef) → IsFormed set → Analyses (shared_rule mpcp) is_shared_interference (source_of protocol.Mpcp set)
mpcp_analyses set =
    analyses_over (shared_rule mpcp) is_shared_interference shared_charge (columns_of protocol.Mpcp) (rows_of protocol.Mpcp)
    (interfering_cost protocol.Mpcp) set (record {
      most = λ of h a l. omega arith;
      interfering = mpcp_interferes_within;
      point = mpcp_point_within;
      charged = mpcp_is_charged;
    })

pub fmlp_analyses : (set : SetDef) → IsFormed set
    → Analyses (shared_rule fmlp_plus) is_shared_interference (source_of protocol.FmlpPlus set)
fmlp_analyses set =
    analyses_over (shared_rule fmlp_plus) is_shared_interference shared_charge (columns_of protocol.FmlpPlus) (rows_of protocol.FmlpPlus)
    (interfering_cost protocol.FmlpPlus) set (record {
      most = λ of h a l. omega arith;
      interfering = fmlp_interferes_within;
      point = fmlp_point_within;
      charged = fmlp_is_charged;
    })

pub dpcp_analyses : (set : SetDef) → IsFormed set → Analyses dpcp_rule is_dpcp_interference (source_of protocol.Dpcp set)
dpcp_analyses set =
    analyses_over dpcp_rule is_dpcp_interference dpcp_charge (columns_of protocol.Dpcp) (rows_of protocol.Dpcp)
    (interfering_cost protocol.Dpcp) set (record {
      most = local_at_most;
      interfering = dpcp_interferes_within;
      point = dpcp_point_within;
      charged = dpcp_is_charged;
    })
