-- What a job is blocked directly by requests of q by task x, it is blocked while it waits for q. So it is at most as many of these requests
-- as can run within the windows of its own.
use Rattle.std.proofs.Common.{◌≡◌, ℕ, ◌*◌, ◌<◌, ◌≤◌, ◌==◌, ◌&&◌, true, length, refl, ap, ◌∙◌, arith}
use Rattle.std.proofs.lemmas.Bool.{and_parts, eqb-true}
use Rattle.number_laws.specs.Sums.{sum_below, flag}
use Rattle.sporadic_model.specs.Users.{count_of, length_of}
use Rattle.schedule_model.specs.RowDef.{Trace}
use Rattle.schedule_model.specs.Phase.Phase.{Asking}
use Rattle.schedule_model.specs.Activity.{task_of}
use Rattle.schedule_model.specs.Ranks.{mpcp}
use Rattle.schedule_model.specs.Protocols.{shared_rule}
use Rattle.schedule_model.specs.Keeping.{KeepsBefore}
use Rattle.blocking_columns.specs.ColumnDef.{ColumnDef, is_direct}
use Rattle.blocking_columns.specs.Windows.{requests_during}
use Rattle.charge_laws.specs.Charges.{shared_charge}
use Rattle.charge_laws.specs.Windows.{window_end}
use Rattle.charge_laws.proofs.SharedCharging.{DirectBy, shared_reason}
use Rattle.row_laws.specs.Meeting.{brings}
use Rattle.row_laws.proofs.Brings.{Hit, hit, column_with, blocker, blocker_is, flag_times-at_most, flag_times-passes}
use Rattle.row_laws.proofs.JobRows.{HitJob, hit_job, job_requests}
use Rattle.row_laws.proofs.Requests.{direct_is, direct_by, held_resource}
use Rattle.mpcp_window_laws.proofs.PaidInWaits.{Waits, WaitsBeside, requests_paid}

-- What is counted of a column, where the column has this share: direct blocking by requests of q by x.
abbrev pub direct_share : ℕ → ℕ → (ℕ → ℕ → ℕ) → ColumnDef → ℕ
direct_share x q share c = flag (((c.task == x) && (c.resource == q)) && is_direct c.class) * share c.task c.resource

-- A tick that counts: job j waits for q, and a job of x that holds it runs.
pub record Blocks (w : Trace) (j x q t : ℕ) (share : ℕ → ℕ → ℕ) (h : Hit shared_charge w (direct_share x q share) j t) : Type 0 where
  pub task : task_of w h.charge.job ≡ x
  pub resource : h.resource ≡ q
  pub most : direct_share x q share (column_with w h.charge h.resource) ≤ share x q
  pub by : DirectBy w t j h.charge.job

pub blocks_is : (w : Trace) (n j x q t : ℕ) (share : ℕ → ℕ → ℕ) → KeepsBefore (shared_rule mpcp) w n → t < n
    → (h : Hit shared_charge w (direct_share x q share) j t) → Blocks w j x q t share h
blocks_is w n j x q t share keeps l h =
    let parts : (((task_of w h.charge.job == x) && (h.resource == q)) ≡ true) × (is_direct h.charge.class ≡ true) =
    and_parts _ _ (flag_times-passes (((task_of w h.charge.job == x) && (h.resource == q)) && is_direct h.charge.class)
    (share (task_of w h.charge.job) h.resource) h.some) in
    let both : ((task_of w h.charge.job == x) ≡ true) × ((h.resource == q) ≡ true) = and_parts _ _ parts.0 in
    let task : task_of w h.charge.job ≡ x = eqb-true _ _ both.0 in
    let resource : h.resource ≡ q = eqb-true _ _ both.1 in
    let same : share (task_of w h.charge.job) h.resource ≡ share x q = rw (task, resource) refl in
    record {
      task = task;
      resource = resource;
      most = omega (
        arith,
        same,
        flag_times-at_most (((task_of w h.charge.job == x) && (h.resource == q)) && is_direct h.charge.class)
            (share (task_of w h.charge.job) h.resource),
      );
      by = direct_by mpcp w t j h.charge.job h.charge.class (direct_is h.charge.class parts.1)
          (shared_reason mpcp w t j h.charge (keeps t l) h.is_it);
    }

pub direct_in_waits : (w : Trace) (bound : ℕ → ℕ) (n j q b x s : ℕ) (share : ℕ → ℕ → ℕ) → Waits w bound n j q b
    → x < length w.set.tasks → share x q * length_of w.set x q ≤ s
    → sum_below (window_end w bound n j) (λ t. brings shared_charge w (direct_share x q share) j t)
    ≤ s * (count_of w.set (task_of w j) q * requests_during w.set bound b x q)
direct_in_waits w bound n j q b x s share a known fair =
    requests_paid w bound n j q b x q s (blocker shared_charge w j) (λ t. brings shared_charge w f j t) a
    (record {
      beside = λ t l some. beside t l (hit shared_charge w f j t some);
      most = λ y listed task. job_requests shared_charge w bound n j x q y s (share x q) f a.window listed task fair
          (λ t l h. let c : Blocks w j x q t share h = blocks_is w n j x q t share a.keeps (omega (arith, l)) h in (c.resource, c.most));
    })
    known where
      e : ℕ
      e = window_end w bound n j

      f : ColumnDef → ℕ
      f = direct_share x q share

      beside : (t : ℕ) → t < e → Hit shared_charge w f j t → WaitsBeside w t j q x (blocker shared_charge w j t)
      beside t l h =
          let c : Blocks w j x q t share h = blocks_is w n j x q t share a.keeps (omega (arith, l)) h in
          let at : HitJob shared_charge w bound j t h.charge.job = hit_job shared_charge w bound n j t f a.window l h in
          let same : c.by.waits.resource ≡ q =
          held_resource w t j h.charge.job h.number h.resource c.by.waits h.request ∙ c.resource in
          rw (blocker_is shared_charge w f j t h) (record {
            number = c.by.waits.number;
            asks = c.by.waits.request ∙ ap (Asking c.by.waits.number) same;
            waits = c.by.waits.other;
            active = at.active;
            task = c.task;
          })
