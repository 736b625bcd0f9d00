-- The laws of each protocol's programs, together: the columns are in the program, the fractions are a point, and a dual bounds the blocked
-- ticks.
use Rattle.std.proofs.Common.{◌≡◌, ℕ, ◌<◌, ◌≤◌, Bool, true, List, length, get_or, refl, arith, Option, Some, None, map}
use Rattle.std.specs.Prelude.{slice_index}
use Rattle.std.specs.Option.{option_map_or}
use Rattle.std.specs.List.{Contains}
use Rattle.std.proofs.lemmas.Bool.{ltb-true}
use Rattle.std.proofs.lemmas.List.Elements.{All-get_or, All-from_get_or}
use Rattle.std.specs.Str.{bytes_eq}
use Rattle.number_laws.specs.Sums.{collect_below}
use Rattle.number_laws.specs.Tests.{count_below}
use Rattle.program_form.specs.Program.{ProgramDef}
use Rattle.program_form.specs.Points.{IsScaledPoint}
use Rattle.program_form.specs.Duals.{Covers, dual_value}
use Rattle.program_form.proofs.Duality.{dual_bounds}
use Rattle.sporadic_model.specs.SetDef.{SetDef, RequestDef, task_at, resource_at}
use Rattle.sporadic_model.specs.Users.{entry_of, length_of, is_user}
use Rattle.sporadic_model.specs.Accepted.{IsFormed, TaskOrder}
use Rattle.sporadic_model.specs.declared.ids.Protocol.{Protocol}
use Rattle.sporadic_model.specs.declared.ids.Protocol.TheVariants as protocol
use Rattle.sporadic_model.proofs.Laws.{length_of_formed}
use Rattle.schedule_model.specs.JobDef.{job_of}
use Rattle.schedule_model.specs.LawfulJobs.{AreLawfulJobs}
use Rattle.schedule_model.specs.RowDef.{Trace, jobs_of}
use Rattle.schedule_model.specs.Phase.{phase_of}
use Rattle.schedule_model.specs.Phase.Phase.{Asking}
use Rattle.schedule_model.specs.Activity.{task_of}
use Rattle.schedule_model.specs.SharedRules.{Ranks}
use Rattle.schedule_model.specs.Ranks.{mpcp, fmlp_plus}
use Rattle.schedule_model.specs.Protocols.{shared_rule, dpcp_rule}
use Rattle.schedule_model.specs.Keeping.{KeepsBefore}
use Rattle.schedule_model.specs.BlockedTicks.{is_shared_interference, is_dpcp_interference, is_blocked}
use Rattle.schedule_laws.proofs.KindsOfTicks.{Blocked, blocked_is}
use Rattle.schedule_laws.proofs.SharedLaws.{shared_runs_active}
use Rattle.blocking_columns.specs.declared.columns.Class.{Class}
use Rattle.blocking_columns.specs.declared.columns.Class.TheVariants.{Direct, Indirect, Preemption}
use Rattle.blocking_columns.specs.ColumnDef.{ColumnDef, classes_of, all_columns, IsKnown}
use Rattle.blocking_columns.specs.Columns.{is_column, columns_where, columns_of, AreRequests}
use Rattle.fragments.specs.Constraints.{ConstraintDef}
use Rattle.blocking_columns.proofs.KnownColumns.{passing_known, passing_pass, columns_are_requests}
use Rattle.program_laws.specs.Programs.{cost_of, rows_of, program_with, program_of}
use Rattle.program_laws.proofs.Lists.{contains_filter, contains_collected}
use Rattle.charge_laws.specs.Charges.{Charge, shared_charge, dpcp_charge, Executes}
use Rattle.charge_laws.specs.Windows.{window_end, EndedBy}
use Rattle.charge_laws.specs.Fractions.{charged_column, product_of_lengths, fractions_of, no_column}
use Rattle.charge_laws.proofs.SharedCharging.{SharedCharged, shared_charged, shared_charge_blocked, shared_executes}
use Rattle.charge_laws.proofs.DpcpCharging.{DpcpCharged, dpcp_charged, dpcp_charge_blocked, dpcp_executes}
use Rattle.charge_laws.proofs.DpcpCharging.{RunsAtHomes, RunsAtHomesBefore, dpcp_at_homes, home_executes}
use Rattle.row_laws.specs.Meeting.{Charges}
use Rattle.row_laws.proofs.Brings.{Window, column_with}
use Rattle.row_laws.proofs.SharedPlacement.{IsPlaced, Sharing, shared_placed}
use Rattle.row_laws.proofs.DpcpPlacement.{dpcp_placed}
use Rattle.row_laws.proofs.Fractions.{HaveLengths, lengths_positive, fractions_are_point, columns_worth}
use Rattle.row_laws.proofs.EachRow.{mpcp_rows_met, fmlp_rows_met, dpcp_rows_met}

-- A user's requests of a resource have a length, in a well formed set.
pub user_length : (set : SetDef) (x q : ℕ) → IsFormed set → x < length set.tasks → is_user set q x ≡ true → 0 < length_of set x q
user_length set x q formed l user = go (entry_of set x q) refl (ltb-true 0 _ user) where
  go : (o : Option RequestDef) → entry_of set x q ≡ o → 0 < option_map_or (λ e. e.count) o 0 → 0 < option_map_or (λ e. e.length) o 0
  go None e some = absurd (omega arith)
  go (Some entry) e some = length_of_formed set x (λ r. bytes_eq r.resource (resource_at set q).name) entry formed l e

-- So columns that are requests of users have lengths.
pub users_have_lengths : (test : ColumnDef → Bool) (set : SetDef) → IsFormed set → AreRequests test set
    → HaveLengths set (columns_where test set)
users_have_lengths test set formed users =
    All-from_get_or (λ (c : ColumnDef). 0 < length_of set c.task c.resource) (columns_where test set) no_column (λ k l.
    let known : IsKnown (length set.tasks) (length set.resources) (get_or (columns_where test set) k no_column) =
    All-get_or (IsKnown (length set.tasks) (length set.resources)) (columns_where test set) k no_column l (passing_known test set) in
    let passes : test (get_or (columns_where test set) k no_column) ≡ true =
    All-get_or (λ c. test c ≡ true) (columns_where test set) k no_column l (passing_pass test set) in
    user_length set (get_or (columns_where test set) k no_column).task (get_or (columns_where test set) k no_column).resource formed
    known.0 (users (get_or (columns_where test set) k no_column) passes))

pub columns_have_lengths : (p : Protocol) (set : SetDef) (i : ℕ) → IsFormed set → HaveLengths set (columns_of p set i)
columns_have_lengths p set i formed = users_have_lengths (is_column p set i) set formed (columns_are_requests p set i)

pub class_among : (x q : ℕ) (c : Class) → Contains (classes_of x q) (record { task = x; resource = q; class = c })
class_among x q Direct = (0, omega arith, refl)
class_among x q Indirect = (1, omega arith, refl)
class_among x q Preemption = (2, omega arith, refl)

-- A column of the set that passes the test is among those that do.
pub passing_among : (test : ColumnDef → Bool) (set : SetDef) (x q : ℕ) (c : Class) → x < length set.tasks → q < length set.resources
    → test (record { task = x; resource = q; class = c }) ≡ true
    → Contains (columns_where test set) (record { task = x; resource = q; class = c })
passing_among test set x q c a b passes =
    contains_filter test (all_columns (length set.tasks) (length set.resources)) (record { task = x; resource = q; class = c })
    (contains_collected (length set.tasks) x (λ y. collect_below (length set.resources) (λ r. classes_of y r))
    (record { task = x; resource = q; class = c }) a
    (contains_collected (length set.resources) q (λ r. classes_of x r) (record { task = x; resource = q; class = c }) b
    (class_among x q c))) passes

-- So does a column that is one of task i's.
pub placed_among : (p : Protocol) (w : Trace) (i x q : ℕ) (c : Class) → IsPlaced p w i x q c
    → Contains (columns_of p w.set i) (record { task = x; resource = q; class = c })
placed_among p w i x q c a = passing_among (is_column p w.set i) w.set x q c a.task a.resource a.column

-- A tick is charged in one of these columns.
pub record LiesIn (charges : Charges) (cs : List ColumnDef) (w : Trace) (t j : ℕ) : Type 0 where
  pub column : ColumnDef
  pub is_it : charged_column charges w t j ≡ Some column
  pub there : Contains cs column

-- A tick is charged in a column of the program.
abbrev pub InColumn : Charges → Protocol → Trace → ℕ → ℕ → Type 0
InColumn charges p w t j = LiesIn charges (columns_of p w.set (task_of w j)) w t j

pub column_from : (charges : Charges) (w : Trace) (t j m q : ℕ) (c : Charge) → charges w t j ≡ Some c → phase_of w t c.job ≡ Asking m q
    → charged_column charges w t j ≡ Some (column_with w c q)
column_from charges w t j m q c e h = rw (e, h) refl

pub shared_in_column : (p : Protocol) (o : Ranks) (w : Trace) (n t j : ℕ) → Sharing p o → AreLawfulJobs (jobs_of w)
    → KeepsBefore (shared_rule o) w n → t < n → is_blocked is_shared_interference w t j ≡ true
    → InColumn shared_charge p w t j
shared_in_column p o w n t j sharing lawful keeps l blocked =
    let s : SharedCharged o w t j = shared_charged o w t j (keeps t l) blocked in
    let e : Executes w t s.charge = shared_executes o w t j s.charge (keeps t l) s.is_it in
    record {
      column = column_with w s.charge e.resource;
      is_it = column_from shared_charge w t j e.number e.resource s.charge s.is_it e.request;
      there = placed_among p w (task_of w j) (task_of w s.charge.job) e.resource s.charge.class
          (shared_placed p o w t j s.charge.job e.number e.resource s.charge.class sharing lawful
          (keeps t l) blocked e.runs e.request s.why);
    }

pub dpcp_in_column : (w : Trace) (n t j : ℕ) → AreLawfulJobs (jobs_of w) → KeepsBefore dpcp_rule w n → t < n
    → is_blocked is_dpcp_interference w t j ≡ true → InColumn dpcp_charge protocol.Dpcp w t j
dpcp_in_column w n t j lawful keeps l blocked =
    let s : DpcpCharged w t j = dpcp_charged w t j (keeps t l) blocked in
    let e : Executes w t s.charge = dpcp_executes w t j s.charge (keeps t l) s.is_it in
    record {
      column = column_with w s.charge e.resource;
      is_it = column_from dpcp_charge w t j e.number e.resource s.charge s.is_it e.request;
      there = placed_among protocol.Dpcp w (task_of w j) (task_of w s.charge.job) e.resource s.charge.class
          (dpcp_placed w n t j s.charge.job e.number e.resource s.charge.class lawful keeps l blocked e.runs e.request s.why);
    }

-- The premises of the laws of rows.
pub record Premises (w : Trace) (bounds : List ℕ) (j : ℕ) : Type 0 where
  pub formed : IsFormed w.set
  pub lawful : AreLawfulJobs (jobs_of w)
  pub listed : j < length w.jobs
  pub ended : EndedBy w (slice_index bounds) (job_of w.jobs j).release

pub periods_from : (set : SetDef) (x : ℕ) → IsFormed set → x < length set.tasks → 0 < (task_at set x).period
periods_from set x formed l = let numbers : TaskOrder set x = formed.numbers x l in
    omega (arith, numbers.local_from, numbers.local_to, numbers.jitter_to, numbers.deadline_to)

pub shared_window : (o : Ranks) (w : Trace) (bounds : List ℕ) (n j : ℕ) → Premises w bounds j → KeepsBefore (shared_rule o) w n
    → Window shared_charge w (slice_index bounds) n j
shared_window o w bounds n j premises keeps = record {
  lawful = premises.lawful;
  active = shared_runs_active o w n keeps;
  listed = premises.listed;
  ended = premises.ended;
  periods = λ x l. periods_from w.set x premises.formed l;
  executes = λ t c l e. shared_executes o w t j c (keeps t l) e;
  own = λ t c l e. let b : Blocked is_shared_interference w t j =
      blocked_is is_shared_interference w t j (shared_charge_blocked w t j c e) in b.active;
}

pub home_window : (w : Trace) (bounds : List ℕ) (n j : ℕ) → Premises w bounds j → RunsAtHomesBefore w n
    → Window dpcp_charge w (slice_index bounds) n j
home_window w bounds n j premises homes = record {
  lawful = premises.lawful;
  active = λ t k i l e. let at : RunsAtHomes w t = homes t l in at.run.active k i e;
  listed = premises.listed;
  ended = premises.ended;
  periods = λ x l. periods_from w.set x premises.formed l;
  executes = λ t c l e. home_executes w t j c (homes t l) e;
  own = λ t c l e. let b : Blocked is_dpcp_interference w t j = blocked_is is_dpcp_interference w t j (dpcp_charge_blocked w t j c e) in
      b.active;
}

pub dpcp_window : (w : Trace) (bounds : List ℕ) (n j : ℕ) → Premises w bounds j → KeepsBefore dpcp_rule w n
    → Window dpcp_charge w (slice_index bounds) n j
dpcp_window w bounds n j premises keeps = home_window w bounds n j premises (λ t l. dpcp_at_homes w t (keeps t l))

-- The fractions of a job's window are a scaled point of the program over these columns and rows.
abbrev pub ArePointOf : Charges → List ColumnDef → List ConstraintDef → Trace → List ℕ → ℕ → ℕ → Type 0
ArePointOf charges cs rows w bounds n j =
    IsScaledPoint (program_with w.set cs rows bounds) (product_of_lengths w.set cs) (fractions_of charges w (slice_index bounds) n j cs)

-- And they are one of its task's program.
abbrev pub ArePoint : Charges → Protocol → Trace → List ℕ → ℕ → ℕ → Type 0
ArePoint charges p w bounds n j = ArePointOf charges (columns_of p w.set (task_of w j)) (rows_of p w.set (task_of w j)) w bounds n j

pub mpcp_point : (w : Trace) (bounds : List ℕ) (n j : ℕ) → Premises w bounds j → KeepsBefore (shared_rule mpcp) w n
    → ArePoint shared_charge protocol.Mpcp w bounds n j
mpcp_point w bounds n j premises keeps =
    fractions_are_point shared_charge protocol.Mpcp w bounds n j
    (columns_have_lengths protocol.Mpcp w.set (task_of w j) premises.formed)
    (mpcp_rows_met w (slice_index bounds) n j (shared_window mpcp w bounds n j premises keeps) keeps)

pub fmlp_point : (w : Trace) (bounds : List ℕ) (n j : ℕ) → Premises w bounds j → KeepsBefore (shared_rule fmlp_plus) w n
    → ArePoint shared_charge protocol.FmlpPlus w bounds n j
fmlp_point w bounds n j premises keeps =
    fractions_are_point shared_charge protocol.FmlpPlus w bounds n j
    (columns_have_lengths protocol.FmlpPlus w.set (task_of w j) premises.formed)
    (fmlp_rows_met w (slice_index bounds) n j (shared_window fmlp_plus w bounds n j premises keeps) keeps)

pub dpcp_point : (w : Trace) (bounds : List ℕ) (n j : ℕ) → Premises w bounds j → KeepsBefore dpcp_rule w n
    → ArePoint dpcp_charge protocol.Dpcp w bounds n j
dpcp_point w bounds n j premises keeps =
    fractions_are_point dpcp_charge protocol.Dpcp w bounds n j (columns_have_lengths protocol.Dpcp w.set (task_of w j) premises.formed)
    (dpcp_rows_met w (slice_index bounds) n j (dpcp_window w bounds n j premises keeps) keeps)

-- Let the fractions be a point of a program with these columns, and let each blocked tick be charged in one of them. Then a dual bounds the
-- blocked ticks.
pub point_bounds : (charges : Charges) (interferes : Trace → ℕ → ℕ → Bool) (w : Trace) (bounds : List ℕ) (n j den : ℕ) (num : ℕ → ℕ)
    (program : ProgramDef) (cs : List ColumnDef) → program.costs ≡ map (cost_of w.set) cs
    → IsScaledPoint program (product_of_lengths w.set cs) (fractions_of charges w (slice_index bounds) n j cs)
    → ((t : ℕ) → t < n → is_blocked interferes w t j ≡ true → LiesIn charges cs w t j) → Covers program den num
    → count_below (window_end w (slice_index bounds) n j) (λ t. is_blocked interferes w t j) ≤ dual_value program den num
point_bounds charges interferes w bounds n j den num program cs costs point placed covers =
    dual_bounds program den num (count_below (window_end w (slice_index bounds) n j) (λ t. is_blocked interferes w t j)) covers
    (record {
      scale = product_of_lengths w.set cs;
      point = fractions_of charges w (slice_index bounds) n j cs;
      is_point = point;
      reached = columns_worth charges w (slice_index bounds) n j program cs (λ t. is_blocked interferes w t j) costs
          (lengths_positive w.set cs point.positive)
          (λ t l blocked. let a : LiesIn charges cs w t j = placed t (omega arith) blocked in (a.column, a.is_it, a.there));
    })

-- So it is for the program over these columns and any rows.
pub ticks_bounded : (charges : Charges) (cs : List ColumnDef) (rows : List ConstraintDef) (interferes : Trace → ℕ → ℕ → Bool) (w : Trace)
    (bounds : List ℕ) (n j den : ℕ) (num : ℕ → ℕ) → ArePointOf charges cs rows w bounds n j
    → ((t : ℕ) → t < n → is_blocked interferes w t j ≡ true → LiesIn charges cs w t j)
    → Covers (program_with w.set cs rows bounds) den num
    → count_below (window_end w (slice_index bounds) n j) (λ t. is_blocked interferes w t j)
    ≤ dual_value (program_with w.set cs rows bounds) den num
ticks_bounded charges cs rows interferes w bounds n j den num point placed covers =
    point_bounds charges interferes w bounds n j den num (program_with w.set cs rows bounds) cs refl point placed covers

pub blocked_bounded : (charges : Charges) (p : Protocol) (interferes : Trace → ℕ → ℕ → Bool) (w : Trace) (bounds : List ℕ) (n j den : ℕ)
    (num : ℕ → ℕ) → ArePoint charges p w bounds n j
    → ((t : ℕ) → t < n → is_blocked interferes w t j ≡ true → InColumn charges p w t j)
    → Covers (program_of p w.set (task_of w j) bounds) den num
    → count_below (window_end w (slice_index bounds) n j) (λ t. is_blocked interferes w t j)
    ≤ dual_value (program_of p w.set (task_of w j) bounds) den num
blocked_bounded charges p interferes w bounds n j den num point placed covers =
    ticks_bounded charges (columns_of p w.set (task_of w j)) (rows_of p w.set (task_of w j)) interferes w bounds n j den num point placed
    covers
