-- The row of direct waits is met.
use Rattle.std.proofs.Common.{◌≡◌, ℕ, ◌*◌, ◌<◌, ◌≤◌, ◌==◌, ◌&&◌, Bool, true, false, List, [], ◌∷◌, length, sym, ap, ◌∙◌, arith, inl, inr}
use Rattle.std.specs.Prelude.{slice_index}
use Rattle.std.proofs.lemmas.Bool.{cases_Bool, both_ways, and_parts, eqb-true, ltb-true}
use Rattle.std.proofs.lemmas.List.Elements.{All-nil, All-cons, All-head}
use Rattle.number_laws.specs.Sums.{sum_below}
use Rattle.sporadic_model.specs.Users.{count_of, length_of, is_user}
use Rattle.schedule_model.specs.RowDef.{Trace}
use Rattle.schedule_model.specs.Activity.{task_of}
use Rattle.schedule_model.specs.Ranks.{mpcp}
use Rattle.schedule_model.specs.Protocols.{shared_rule}
use Rattle.schedule_model.specs.Keeping.{KeepsBefore}
use Rattle.schedule_laws.proofs.Segments.{open_user}
use Rattle.blocking_columns.specs.ColumnDef.{ColumnDef, is_direct}
use Rattle.blocking_columns.specs.Windows.{jobs_in, requests_in}
use Rattle.fragments.specs.Constraints.{ConstraintDef}
use Rattle.charge_laws.specs.Charges.{shared_charge}
use Rattle.charge_laws.specs.Windows.{bound_end, window_end, EndedWithin}
use Rattle.charge_laws.proofs.SharedCharging.{DirectBy, shared_reason}
use Rattle.row_laws.specs.Meeting.{brings, TicksMeet}
use Rattle.row_laws.proofs.Brings.{Window, Counted}
use Rattle.row_laws.proofs.EmptyWindows.{WithinRows}
use Rattle.row_laws.proofs.JobRows.{by_job, job_requests, product_turned}
use Rattle.row_laws.proofs.Requests.{direct_is, direct_by, held_resource}
use Rattle.closer_laws.proofs.Waits.{never_met}
use Rattle.closer_mpcp_laws.proofs.RowsMet.{met_within}
use Rattle.mpcp_window_laws.specs.WaitRows.{direct_wait_row}
use Rattle.mpcp_window_laws.proofs.WaitLimits.{paid_in_each}
use Rattle.mpcp_window_laws.proofs.DirectInWaits.{direct_share, Blocks, blocks_is, direct_in_waits}

-- Its requests are at most as many as x makes while the job runs.
direct_requests : (w : Trace) (bound : ℕ → ℕ) (n j x q s : ℕ) (share : ℕ → ℕ → ℕ) → Window shared_charge w bound n j
    → KeepsBefore (shared_rule mpcp) w n → x < length w.set.tasks → share x q * length_of w.set x q ≤ s
    → sum_below (window_end w bound n j) (λ t. brings shared_charge w (direct_share x q share) j t)
    ≤ s * requests_in w.set bound (task_of w j) x q
direct_requests w bound n j x q s share window keeps known fair =
    omega (
      arith,
      by_job shared_charge w bound n j x (count_of w.set x q * s) (direct_share x q share) window known
          (λ t l h. let c : Blocks w j x q t share h = blocks_is w n j x q t share keeps (omega (arith, l)) h in c.task)
          (λ y listed task. job_requests shared_charge w bound n j x q y s (share x q) (direct_share x q share) window listed task fair
          (λ t l h. let c : Blocks w j x q t share h = blocks_is w n j x q t share keeps (omega (arith, l)) h in (c.resource, c.most))),
      product_turned (jobs_in w.set bound (task_of w j) x) (count_of w.set x q) s,
    )

-- The row is met.
pub direct_wait_row_met : (w : Trace) (bound : ℕ → ℕ) (n j x q : ℕ) → Window shared_charge w bound n j → KeepsBefore (shared_rule mpcp) w n
    → EndedWithin w bound (bound_end w bound j) n → x < length w.set.tasks
    → TicksMeet shared_charge w bound n j (direct_wait_row w.set (task_of w j) x q)
direct_wait_row_met w bound n j x q window keeps ended known s share fair = elim (cases_Bool (is_user w.set q (task_of w j))) [
  | inr off ↦
      let none : ticks ≤ s * 0 =
      never_met shared_charge w bound n j counts window (λ t l c. never off t l c) s share fair in
      omega (arith, none)
  | inl on ↦
      paid_in_each w.set bound (task_of w j) q x q s ticks (ltb-true 0 (count_of w.set (task_of w j) q) on)
      (direct_requests w bound n j x q s share window keeps known (fair x q))
      (λ b e. direct_in_waits w bound n j q b x s share (record { window = window; keeps = keeps; ended = ended; limit = e }) known (fair x q))
] where
  counts : ColumnDef → Bool
  counts = λ c. ((c.task == x) && (c.resource == q)) && is_direct c.class

  ticks : ℕ
  ticks = sum_below (window_end w bound n j) (λ t. brings shared_charge w (direct_share x q share) j t)

  never : is_user w.set q (task_of w j) ≡ false → (t : ℕ) → t < n → Counted shared_charge w counts j t → ⊥
  never off t l c =
      let parts : (((task_of w c.charge.job == x) && (c.resource == q)) ≡ true) × (is_direct c.charge.class ≡ true) =
      and_parts ((task_of w c.charge.job == x) && (c.resource == q)) (is_direct c.charge.class) c.passes in
      let both : ((task_of w c.charge.job == x) ≡ true) × ((c.resource == q) ≡ true) =
      and_parts (task_of w c.charge.job == x) (c.resource == q) parts.0 in
      let by : DirectBy w t j c.charge.job =
      direct_by mpcp w t j c.charge.job c.charge.class (direct_is c.charge.class parts.1)
      (shared_reason mpcp w t j c.charge (keeps t l) c.is_it) in
      let same : by.waits.resource ≡ q =
      held_resource w t j c.charge.job c.number c.resource by.waits c.request ∙ eqb-true c.resource q both.1 in
      let user : is_user w.set by.waits.resource (task_of w j) ≡ true =
      open_user w.set w t j by.waits.number by.waits.resource (window.lawful.each j window.listed) by.waits.request in
      both_ways (is_user w.set q (task_of w j)) off (ap (λ r. is_user w.set r (task_of w j)) (sym same) ∙ user)

-- The same for each job, also if its window has no tick within the rows.
pub direct_waits_met : (w : Trace) (bounds : List ℕ) (n j x q : ℕ) → WithinRows w bounds n j → KeepsBefore (shared_rule mpcp) w n
    → x < length w.set.tasks → TicksMeet shared_charge w (slice_index bounds) n j (direct_wait_row w.set (task_of w j) x q)
direct_waits_met w bounds n j x q a keeps known =
    All-head meets row [] (met_within w bounds n j (row ∷ []) a keeps (λ window.
    All-cons meets row [] (direct_wait_row_met w (slice_index bounds) n j x q window keeps a.ended known) (All-nil meets))) where
      meets : ConstraintDef → Type 0
      meets = TicksMeet shared_charge w (slice_index bounds) n j

      row : ConstraintDef
      row = direct_wait_row w.set (task_of w j) x q
