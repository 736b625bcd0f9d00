-- Rows in which each unit pays for one request. All that one slot contributes is of one request, and so at most one whole.
use Rattle.std.proofs.Common.{◌≡◌, ℕ, ◌*◌, ◌<◌, ◌≤◌, ◌==◌, ◌&&◌, Bool, true, refl, sym, ap, ◌∙◌, arith, inl, inr}
use Rattle.std.proofs.Math.Nat.{mul_comm, mul-le-mul_right}
use Rattle.std.proofs.lemmas.Bool.{cases_lt, eq-eqb, eqb-true, and_from}
use Rattle.number_laws.specs.Sums.{sum_below, flag, only_if}
use Rattle.number_laws.specs.Tests.{count_below}
use Rattle.number_laws.proofs.SumLaws.{sum_below-none_or_some}
use Rattle.number_laws.proofs.CountLaws.{sum_below-counted}
use Rattle.sporadic_model.specs.Users.{length_of}
use Rattle.schedule_model.specs.JobDef.{job_of}
use Rattle.schedule_model.specs.LawfulJobs.{IsLawfulJob}
use Rattle.schedule_model.specs.RowDef.{Trace, runs_in}
use Rattle.schedule_model.specs.Phase.{phase_of}
use Rattle.schedule_model.specs.Phase.Phase.{Asking}
use Rattle.schedule_model.specs.Activity.{task_of}
use Rattle.schedule_laws.specs.Counting.{executed_in, is_request}
use Rattle.schedule_laws.proofs.Counts.{request_at_most}
use Rattle.blocking_columns.specs.ColumnDef.{ColumnDef}
use Rattle.charge_laws.specs.Windows.{window_end}
use Rattle.row_laws.specs.Meeting.{Charges, brings}
use Rattle.row_laws.proofs.Brings.{Window, Hit, hit, only_if-parts, sum_below-passing}
use Rattle.row_laws.proofs.JobRows.{HitJob, hit_job}

-- Are ticks u and v charged to one request: to one job, in one phase?
pub record OneRequest (w : Trace) (u v i k : ℕ) : Type 0 where
  pub job : i ≡ k
  pub phase : phase_of w u i ≡ phase_of w v k

-- How a part g of what the ticks contribute is paid for. Each tick that counts has a slot below m that passes a test, and two ticks of one
-- slot are charged to one request.
pub record Parts (charges : Charges) (w : Trace) (bound : ℕ → ℕ) (n j m : ℕ) (f : ColumnDef → ℕ) (g slot : ℕ → ℕ) (p : ℕ
    → Bool) : Type 0 where
  pub below : (t : ℕ) → t < window_end w bound n j → g t ≤ brings charges w f j t
  pub within : (t : ℕ) → t < window_end w bound n j → 0 < g t → Hit charges w f j t → slot t < m
  pub passes : (t : ℕ) → t < window_end w bound n j → 0 < g t → Hit charges w f j t → p (slot t) ≡ true
  pub one : (u v : ℕ) → u ≤ v → v < window_end w bound n j → 0 < g u → 0 < g v → (a : Hit charges w f j u) → (b : Hit charges w f j v)
      → slot u ≡ slot v → OneRequest w u v a.charge.job b.charge.job

-- The premises of all of them: what the row counts of a column is at most the column's share.
pub record Shares (w : Trace) (s : ℕ) (share : ℕ → ℕ → ℕ) (f : ColumnDef → ℕ) : Type 0 where
  pub fair : (x q : ℕ) → share x q * length_of w.set x q ≤ s
  pub small : (c : ColumnDef) → f c ≤ share c.task c.resource

-- In either order, two ticks of one slot are charged to one request.
one_of_slot : (charges : Charges) (w : Trace) (bound : ℕ → ℕ) (n j m : ℕ) (f : ColumnDef → ℕ) (g slot : ℕ → ℕ) (p : ℕ → Bool) (u v : ℕ)
    → Parts charges w bound n j m f g slot p → u < window_end w bound n j
    → v < window_end w bound n j → 0 < g u → 0 < g v → (a : Hit charges w f j u) → (b : Hit charges w f j v) → slot u ≡ slot v
    → OneRequest w u v a.charge.job b.charge.job
one_of_slot charges w bound n j m f g slot p u v parts l k first second a b same = elim (cases_lt v u) [
  | inr order ↦ parts.one u v order k first second a b same
  | inl order ↦
      let o : OneRequest w v u b.charge.job a.charge.job = parts.one v u (omega arith) l second first b a (sym same) in
      record { job = sym o.job; phase = sym o.phase }
]

-- A tick that counts contributes something.
part_hit : (charges : Charges) (w : Trace) (bound : ℕ → ℕ) (n j m : ℕ) (f : ColumnDef → ℕ) (g slot : ℕ → ℕ) (p : ℕ → Bool) (t : ℕ)
    → Parts charges w bound n j m f g slot p → t < window_end w bound n j → 0 < g t
    → Hit charges w f j t
part_hit charges w bound n j m f g slot p t parts l some = hit charges w f j t (omega (arith, parts.below t l))

-- A tick of the slot runs in the request.
request_term : (charges : Charges) (w : Trace) (bound : ℕ → ℕ) (n j m s : ℕ) (share : ℕ → ℕ → ℕ) (f : ColumnDef → ℕ) (g slot : ℕ → ℕ)
    (p : ℕ → Bool) (u v k : ℕ) → Window charges w bound n j
    → Parts charges w bound n j m f g slot p → Shares w s share f → u < window_end w bound n j → v < window_end w bound n j → 0 < g u
    → (a : Hit charges w f j u) → slot u ≡ k
    → only_if (slot v == k) (g v)
    ≤ flag (runs_in (w.row v) a.charge.job && is_request a.number a.resource (phase_of w v a.charge.job)) * share
    (task_of w a.charge.job) a.resource
request_term charges w bound n j m s share f g slot p u v k window parts shares l b first a at =
    elim (cases_lt 0 (only_if (slot v == k) (g v))) [
      | inr none ↦ omega arith
      | inl some ↦
          let both : ((slot v == k) ≡ true) × (0 < g v) = only_if-parts (slot v == k) (g v) some in
          go both.0 both.1 (part_hit charges w bound n j m f g slot p v parts b both.1)
    ] where
      y : ℕ
      y = a.charge.job

      go : (slot v == k) ≡ true → 0 < g v → Hit charges w f j v
          → only_if (slot v == k) (g v)
          ≤ flag (runs_in (w.row v) y && is_request a.number a.resource (phase_of w v y)) * share (task_of w y) a.resource
      go here second h =
          let o : OneRequest w u v y h.charge.job =
          one_of_slot charges w bound n j m f g slot p u v parts l b first second a h (at ∙ sym (eqb-true (slot v) k here)) in
          let at_v : phase_of w v y ≡ Asking a.number a.resource = ap (phase_of w v) o.job ∙ sym o.phase ∙ a.request in
          let one : Asking h.number h.resource ≡ Asking a.number a.resource = sym h.request ∙ sym o.phase ∙ a.request in
          let resource : h.resource ≡ a.resource = cc in
          let job : HitJob charges w bound j v h.charge.job = hit_job charges w bound n j v f window b h in
          let runs : runs_in (w.row v) y ≡ true = ap (runs_in (w.row v)) o.job ∙ job.runs in
          let asks : is_request a.number a.resource (phase_of w v y) ≡ true =
          rw at_v (and_from _ _ (eq-eqb a.number a.number refl) (eq-eqb a.resource a.resource refl)) in
          let same : share (task_of w h.charge.job) h.resource ≡ share (task_of w y) a.resource =
          ap (λ z. share (task_of w z) h.resource) (sym o.job) ∙ ap (share (task_of w y)) resource in
          let small : f (record { task = task_of w h.charge.job; resource = h.resource; class = h.charge.class })
          ≤ share (task_of w h.charge.job) h.resource =
          shares.small (record { task = task_of w h.charge.job; resource = h.resource; class = h.charge.class }) in
          rw (here, runs, asks) (omega (arith, h.amount, small, same, parts.below v b))

-- What one slot contributes is at most one whole.
slot_whole : (charges : Charges) (w : Trace) (bound : ℕ → ℕ) (n j m s : ℕ) (share : ℕ → ℕ → ℕ) (f : ColumnDef → ℕ) (g slot : ℕ → ℕ) (p : ℕ
    → Bool) (u k : ℕ) → Window charges w bound n j
    → Parts charges w bound n j m f g slot p → Shares w s share f → u < window_end w bound n j → 0 < g u → slot u ≡ k
    → sum_below (window_end w bound n j) (λ v. only_if (slot v == k) (g v)) ≤ s
unfolding executed_in
slot_whole charges w bound n j m s share f g slot p u k window parts shares l first at =
    let a : Hit charges w f j u = part_hit charges w bound n j m f g slot p u parts l first in
    let y : ℕ = a.charge.job in
    let job : HitJob charges w bound j u y = hit_job charges w bound n j u f window l a in
    let lawful : IsLawfulJob w.set (job_of w.jobs y) = window.lawful.each y job.listed in
    let ticks : sum_below (window_end w bound n j) (λ v. only_if (slot v == k) (g v))
    ≤ executed_in (is_request a.number a.resource) w (window_end w bound n j) y * share (task_of w y) a.resource =
    sum_below-counted (window_end w bound n j) (share (task_of w y) a.resource)
    (λ v. runs_in (w.row v) y && is_request a.number a.resource (phase_of w v y)) (λ v. only_if (slot v == k) (g v))
    (λ v b. request_term charges w bound n j m s share f g slot p u v k window parts shares l b first a at) in
    let most : executed_in (is_request a.number a.resource) w (window_end w bound n j) y ≤ length_of w.set (task_of w y) a.resource =
    request_at_most w.set w (window_end w bound n j) a.number a.resource y lawful in
    let product : executed_in (is_request a.number a.resource) w (window_end w bound n j) y * share (task_of w y) a.resource
    ≤ length_of w.set (task_of w y) a.resource * share (task_of w y) a.resource =
    mul-le-mul_right (share (task_of w y) a.resource) most in
    omega (
      arith,
      ticks,
      product,
      mul_comm (length_of w.set (task_of w y) a.resource) (share (task_of w y) a.resource),
      shares.fair
          (task_of w y) a.resource,
    )

-- So all slots together contribute at most a whole for each slot that passes.
pub parts_paid : (charges : Charges) (w : Trace) (bound : ℕ → ℕ) (n j m s : ℕ) (share : ℕ → ℕ → ℕ) (f : ColumnDef → ℕ) (g slot : ℕ → ℕ)
    (p : ℕ → Bool) → Window charges w bound n j
    → Parts charges w bound n j m f g slot p → Shares w s share f → sum_below (window_end w bound n j) g ≤ count_below m p * s
parts_paid charges w bound n j m s share f g slot p window parts shares =
    sum_below-passing (window_end w bound n j) m s slot g p
    (λ t l some. let a : Hit charges w f j t = part_hit charges w bound n j m f g slot p t parts l some in
    (parts.within t l some a, parts.passes t l some a))
    (λ k b passing. sum_below-none_or_some (window_end w bound n j) s (λ v. only_if (slot v == k) (g v))
    (λ u l some. whole k u l some)) where
      whole : (k u : ℕ) → u < window_end w bound n j → 0 < only_if (slot u == k) (g u)
          → sum_below (window_end w bound n j) (λ v. only_if (slot v == k) (g v)) ≤ s
      whole k u l some =
          let both : ((slot u == k) ≡ true) × (0 < g u) = only_if-parts (slot u == k) (g u) some in
          slot_whole charges w bound n j m s share f g slot p u k window parts shares l both.1 (eqb-true (slot u) k both.0)

-- How a whole row is paid for: all that its ticks contribute.
pub record Slots (charges : Charges) (w : Trace) (bound : ℕ → ℕ) (n j m : ℕ) (f : ColumnDef → ℕ) (slot : ℕ → ℕ) (p : ℕ
    → Bool) : Type 0 where
  pub within : (t : ℕ) → t < window_end w bound n j → Hit charges w f j t → slot t < m
  pub passes : (t : ℕ) → t < window_end w bound n j → Hit charges w f j t → p (slot t) ≡ true
  pub one : (u v : ℕ) → u ≤ v → v < window_end w bound n j → (a : Hit charges w f j u) → (b : Hit charges w f j v) → slot u ≡ slot v
      → OneRequest w u v a.charge.job b.charge.job

pub slot_row : (charges : Charges) (w : Trace) (bound : ℕ → ℕ) (n j m s : ℕ) (share : ℕ → ℕ → ℕ) (f : ColumnDef → ℕ) (slot : ℕ → ℕ) (p : ℕ
    → Bool) → Window charges w bound n j
    → Slots charges w bound n j m f slot p → Shares w s share f
    → sum_below (window_end w bound n j) (λ t. brings charges w f j t) ≤ count_below m p * s
slot_row charges w bound n j m s share f slot p window slots shares =
    parts_paid charges w bound n j m s share f (λ t. brings charges w f j t) slot p window
    (record {
      below = λ t l. omega arith;
      within = λ t l some h. slots.within t l h;
      passes = λ t l some h. slots.passes t l h;
      one = λ u v order l first second a b same. slots.one u v order l a b same;
    })
    shares
