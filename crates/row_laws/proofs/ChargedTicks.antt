-- Each blocked tick is charged to one request, which executes, in a column of the job's program. If a point meets the program's rows, a
-- dual bounds these ticks.
use Rattle.std.proofs.Common.{◌≡◌, ℕ, ◌<◌, ◌≤◌, Bool, true, List, map, Some}
use Rattle.std.specs.Prelude.{slice_index}
use Rattle.number_laws.specs.Tests.{count_below}
use Rattle.program_form.specs.Program.{ProgramDef}
use Rattle.program_form.specs.Points.{IsScaledPoint}
use Rattle.program_form.specs.Duals.{Covers, dual_value}
use Rattle.sporadic_model.specs.declared.ids.Protocol.{Protocol}
use Rattle.sporadic_model.specs.declared.ids.Protocol.TheVariants as protocol
use Rattle.schedule_model.specs.LawfulJobs.{AreLawfulJobs}
use Rattle.schedule_model.specs.RowDef.{Trace, jobs_of}
use Rattle.schedule_model.specs.Activity.{task_of}
use Rattle.schedule_model.specs.SharedRules.{Ranks}
use Rattle.schedule_model.specs.Ranks.{mpcp, fmlp_plus}
use Rattle.schedule_model.specs.Protocols.{shared_rule, dpcp_rule}
use Rattle.schedule_model.specs.Keeping.{KeepsBefore}
use Rattle.schedule_model.specs.BlockedTicks.{is_shared_interference, is_dpcp_interference, is_blocked}
use Rattle.blocking_columns.specs.ColumnDef.{ColumnDef}
use Rattle.blocking_columns.specs.Columns.{columns_of}
use Rattle.program_laws.specs.Programs.{cost_of}
use Rattle.charge_laws.specs.Charges.{Charge, shared_charge, dpcp_charge, Executes}
use Rattle.charge_laws.specs.ChargedTicks.{IsCharged}
use Rattle.charge_laws.specs.Windows.{window_end}
use Rattle.charge_laws.specs.Fractions.{product_of_lengths, fractions_of}
use Rattle.charge_laws.proofs.SharedCharging.{SharedCharged, shared_charged, shared_executes}
use Rattle.charge_laws.proofs.DpcpCharging.{DpcpCharged, dpcp_charged, dpcp_executes}
use Rattle.row_laws.specs.Meeting.{Charges}
use Rattle.row_laws.proofs.SharedPlacement.{Sharing, mpcp_shares, fmlp_shares}
use Rattle.row_laws.proofs.Joined.{LiesIn, shared_in_column, dpcp_in_column, point_bounds}

-- A tick that is charged to a request that executes, in one of these columns.
pub is_charged_in : (charges : Charges) (cs : List ColumnDef) (w : Trace) (t j : ℕ) (c : Charge) → charges w t j ≡ Some c
    → Executes w t c → LiesIn charges cs w t j → IsCharged charges cs w t j
is_charged_in charges cs w t j c e executes a =
    record { charge = c; is_it = e; executes = executes; column = a.column; lies_in = a.is_it; there = a.there }

shared_is_charged : (p : Protocol) (o : Ranks) (w : Trace) (n t j : ℕ) → Sharing p o → AreLawfulJobs (jobs_of w)
    → KeepsBefore (shared_rule o) w n → t < n → is_blocked is_shared_interference w t j ≡ true
    → IsCharged shared_charge (columns_of p w.set (task_of w j)) w t j
shared_is_charged p o w n t j sharing lawful keeps l blocked =
    let s : SharedCharged o w t j = shared_charged o w t j (keeps t l) blocked in
    is_charged_in shared_charge (columns_of p w.set (task_of w j)) w t j s.charge s.is_it
    (shared_executes o w t j s.charge (keeps t l) s.is_it) (shared_in_column p o w n t j sharing lawful keeps l blocked)

pub mpcp_is_charged : (w : Trace) (n t j : ℕ) → AreLawfulJobs (jobs_of w) → KeepsBefore (shared_rule mpcp) w n → t < n
    → is_blocked is_shared_interference w t j ≡ true → IsCharged shared_charge (columns_of protocol.Mpcp w.set (task_of w j)) w t j
mpcp_is_charged w n t j lawful keeps l blocked = shared_is_charged protocol.Mpcp mpcp w n t j mpcp_shares lawful keeps l blocked

pub fmlp_is_charged : (w : Trace) (n t j : ℕ) → AreLawfulJobs (jobs_of w) → KeepsBefore (shared_rule fmlp_plus) w n → t < n
    → is_blocked is_shared_interference w t j ≡ true
    → IsCharged shared_charge (columns_of protocol.FmlpPlus w.set (task_of w j)) w t j
fmlp_is_charged w n t j lawful keeps l blocked = shared_is_charged protocol.FmlpPlus fmlp_plus w n t j fmlp_shares lawful keeps l blocked

pub dpcp_is_charged : (w : Trace) (n t j : ℕ) → AreLawfulJobs (jobs_of w) → KeepsBefore dpcp_rule w n → t < n
    → is_blocked is_dpcp_interference w t j ≡ true → IsCharged dpcp_charge (columns_of protocol.Dpcp w.set (task_of w j)) w t j
dpcp_is_charged w n t j lawful keeps l blocked =
    let s : DpcpCharged w t j = dpcp_charged w t j (keeps t l) blocked in
    is_charged_in dpcp_charge (columns_of protocol.Dpcp w.set (task_of w j)) w t j s.charge s.is_it
    (dpcp_executes w t j s.charge (keeps t l) s.is_it) (dpcp_in_column w n t j lawful keeps l blocked)

-- Whatever the protocol: let the fractions of a window be a point of a program with these columns, and let each blocked tick be charged in
-- one of them. Then a dual bounds the blocked ticks.
pub charged_bounded : (charges : Charges) (interferes : Trace → ℕ → ℕ → Bool) (w : Trace) (bounds : List ℕ) (n j den : ℕ)
    (num : ℕ → ℕ) (program : ProgramDef) (cs : List ColumnDef) → program.costs ≡ map (cost_of w.set) cs
    → IsScaledPoint program (product_of_lengths w.set cs) (fractions_of charges w (slice_index bounds) n j cs)
    → ((t : ℕ) → t < n → is_blocked interferes w t j ≡ true → IsCharged charges cs w t j) → Covers program den num
    → count_below (window_end w (slice_index bounds) n j) (λ t. is_blocked interferes w t j) ≤ dual_value program den num
charged_bounded charges interferes w bounds n j den num program cs costs point charged covers =
    point_bounds charges interferes w bounds n j den num program cs costs point
    (λ t l blocked. let a : IsCharged charges cs w t j = charged t l blocked in
    record { column = a.column; is_it = a.lies_in; there = a.there }) covers
