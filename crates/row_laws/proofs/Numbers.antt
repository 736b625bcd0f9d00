-- Rows in which each request of a job, mostly of the job itself, pays for one request. A tick's slot is the number of the request that the
-- job is in.
use Rattle.std.proofs.Common.{◌≡◌, ℕ, zero, suc, ◌*◌, ◌<◌, ◌≤◌, ◌==◌, Bool, true, false, List, length}
use Rattle.std.proofs.Common.{get_or, refl, sym, ap, ◌∙◌, arith, inl, inr, Option, Some, None}
use Rattle.std.specs.Option.{option_map_or}
use Rattle.std.proofs.Math.Nat.{mul_comm, mul-le-mul_left, mul-le-mul_right}
use Rattle.std.proofs.lemmas.Bool.{cases_Bool, eq-eqb, eqb-true, ne_eqb}
use Rattle.number_laws.specs.Sums.{sum_below, flag, only_if}
use Rattle.number_laws.specs.Tests.{count_below}
use Rattle.number_laws.proofs.SumLaws.{sum_below-agree}
use Rattle.number_laws.proofs.SumLaws.{sum_below-zero, only_if-true, only_if-false}
use Rattle.sporadic_model.specs.SetDef.{SetDef}
use Rattle.sporadic_model.specs.Users.{count_of}
use Rattle.schedule_model.specs.JobDef.{SegmentDef, JobDef, job_of, no_segment}
use Rattle.schedule_model.specs.LawfulJobs.{IsLawfulJob}
use Rattle.schedule_model.specs.RowDef.{Trace}
use Rattle.schedule_model.specs.Phase.{Phase, phase_of}
use Rattle.schedule_model.specs.Phase.Phase.{Asking}
use Rattle.schedule_model.specs.Activity.{task_of}
use Rattle.schedule_laws.proofs.Segments.{RequestAt, open_segment, asks_some}
use Rattle.blocking_columns.specs.ColumnDef.{ColumnDef}
use Rattle.charge_laws.specs.Windows.{window_end}
use Rattle.row_laws.specs.Meeting.{Charges, brings}
use Rattle.row_laws.proofs.Brings.{Window, Hit}
use Rattle.row_laws.proofs.SlotRow.{OneRequest, Shares, parts_paid}
use Rattle.row_laws.proofs.OwnWeights.{weighed, own_weights}

-- The number of the request, or 0 if there is none.
abbrev pub number_of : Phase → ℕ
number_of (Asking k q) = k
number_of _ = 0

-- Does the segment request a resource that passes?
abbrev pub asks_passing : (ℕ → Bool) → SegmentDef → Bool
asks_passing ok s = option_map_or (λ r. ok r.0) s.request false

-- The same as a weight.
passing_weight : (ok : ℕ → Bool) (s : SegmentDef) → flag (asks_passing ok s) ≡ weighed (λ q. flag (ok q)) s
passing_weight ok s = go s.request where
  go : (o : Option (ℕ × ℕ)) → flag (option_map_or (λ r. ok r.0) o false) ≡ option_map_or (λ r. flag (ok r.0)) o 0
  go None = refl
  go (Some r) = refl

times_flag : (n : ℕ) (b : Bool) → n * flag b ≡ only_if b n
times_flag n true = omega arith
times_flag n false = omega arith

-- A lawful job has at most as many requests that pass as its task may make.
pub own_passing : (set : SetDef) (ok : ℕ → Bool) (job : JobDef) → IsLawfulJob set job
    → count_below (length job.script) (λ k. asks_passing ok (get_or job.script k no_segment))
    ≤ sum_below (length set.resources) (λ q. only_if (ok q) (count_of set job.task q))
own_passing set ok job lawful =
    let numbers : count_below (length job.script) (λ k. asks_passing ok (get_or job.script k no_segment))
    ≡ sum_below (length job.script) (λ k. weighed (λ q. flag (ok q)) (get_or job.script k no_segment)) =
    sum_below-agree (length job.script) (λ k. flag (asks_passing ok (get_or job.script k no_segment)))
    (λ k. weighed (λ q. flag (ok q)) (get_or job.script k no_segment)) (λ k l. passing_weight ok (get_or job.script k no_segment)) in
    let terms : sum_below (length set.resources) (λ q. count_of set job.task q * flag (ok q))
    ≡ sum_below (length set.resources) (λ q. only_if (ok q) (count_of set job.task q)) =
    sum_below-agree (length set.resources) (λ q. count_of set job.task q * flag (ok q))
    (λ q. only_if (ok q) (count_of set job.task q)) (λ q l. times_flag (count_of set job.task q) (ok q)) in
    omega (arith, numbers, terms, own_weights set (λ q. flag (ok q)) job lawful)

-- The same for one resource.
pub sum_below-only : (n q : ℕ) (f : ℕ → ℕ) → sum_below n (λ k. only_if (k == q) (f k)) ≤ f q
sum_below-only zero q f = omega arith
sum_below-only (suc n) q f = elim (cases_Bool (n == q)) [
  | inr other ↦ omega (arith, sum_below-only n q f, only_if-false (n == q) (f n) other)
  | inl same ↦
      let e : n ≡ q = eqb-true n q same in
      let none : sum_below n (λ k. only_if (k == q) (f k)) ≡ 0 =
      sum_below-zero n (λ k. only_if (k == q) (f k)) (λ k l. only_if-false (k == q) (f k) (ne_eqb k q (λ x. omega (arith, x, e, l)))) in
      let last : f n ≡ f q = ap f e in
      omega (arith, none, last, only_if-true (n == q) (f n) same)
]

-- Which request a job is in at a tick: its number and its resource, which passes.
pub record OwnRequest (w : Trace) (t j : ℕ) (ok : ℕ → Bool) : Type 0 where
  pub number : ℕ
  pub resource : ℕ
  pub request : phase_of w t j ≡ Asking number resource
  pub passes : ok resource ≡ true

-- How a part g of what the ticks bring is paid for by the requests of job z that pass: at some tick of each tick that counts z is in one,
-- and what is charged at ticks of one of these requests is one request.
pub record PaidAt (charges : Charges) (w : Trace) (bound : ℕ → ℕ) (n j z : ℕ) (f : ColumnDef → ℕ) (g : ℕ → ℕ) (ok : ℕ → Bool) (at : ℕ
    → ℕ) : Type 0 where
  pub below : (t : ℕ) → t < window_end w bound n j → g t ≤ brings charges w f j t
  pub own : (t : ℕ) → t < window_end w bound n j → 0 < g t → Hit charges w f j t → OwnRequest w (at t) z ok
  pub one : (u v k q r : ℕ) → u ≤ v → v < window_end w bound n j → 0 < g u → 0 < g v → (a : Hit charges w f j u)
      → (b : Hit charges w f j v) → phase_of w (at u) z ≡ Asking k q → phase_of w (at v) z ≡ Asking k r
      → OneRequest w u v a.charge.job b.charge.job

-- Each of these requests pays for one.
pub paid_at : (charges : Charges) (w : Trace) (bound : ℕ → ℕ) (n j z s : ℕ) (share : ℕ → ℕ → ℕ) (f : ColumnDef → ℕ) (g : ℕ → ℕ) (ok : ℕ
    → Bool) (at : ℕ → ℕ) → Window charges w bound n j → Shares w s share f → z < length w.jobs
    → PaidAt charges w bound n j z f g ok at
    → sum_below (window_end w bound n j) g
    ≤ s * sum_below (length w.set.resources) (λ q. only_if (ok q) (count_of w.set (task_of w z) q))
paid_at charges w bound n j z s share f g ok at window shares listed paid =
    let most : sum_below (window_end w bound n j) g ≤ count_below (length script) test * s =
    parts_paid charges w bound n j (length script) s share f g slot test window
    (record {
      below = paid.below;
      within = λ t l some h. let a : OwnRequest w (at t) z ok = paid.own t l some h in
          rw a.request ((open_segment w (at t) z a.number a.resource a.request).within);
      passes = λ t l some h. passes (at t) (paid.own t l some h);
      one = λ u v order l first second a b same. together u v order l first second a b (paid.own u (omega arith) first a)
          (paid.own v l second b) same;
    })
    shares in
    let number : count_below (length script) test
    ≤ sum_below (length w.set.resources) (λ q. only_if (ok q) (count_of w.set (task_of w z) q)) =
    own_passing w.set ok (job_of w.jobs z) (window.lawful.each z listed) in
    omega (
      arith,
      most,
      mul-le-mul_right s number,
      mul_comm
          (sum_below (length w.set.resources) (λ q. only_if (ok q) (count_of w.set (task_of w z) q))) s,
    ) where
      script : List SegmentDef
      script = (job_of w.jobs z).script

      slot : ℕ → ℕ
      slot = λ t. number_of (phase_of w (at t) z)

      test : ℕ → Bool
      test = λ k. asks_passing ok (get_or script k no_segment)

      passes : (t : ℕ) → OwnRequest w t z ok → test (number_of (phase_of w t z)) ≡ true
      passes t a =
          let at : RequestAt script a.number a.resource = open_segment w t z a.number a.resource a.request in
          let some : (l : ℕ) × ((get_or script a.number no_segment).request ≡ Some (a.resource, l)) =
          asks_some a.resource (get_or script a.number no_segment) at.asks in
          rw (a.request, some.1) a.passes

      together : (u v : ℕ) → u ≤ v → v < window_end w bound n j → 0 < g u → 0 < g v → (a : Hit charges w f j u)
          → (b : Hit charges w f j v) → OwnRequest w (at u) z ok → OwnRequest w (at v) z ok → slot u ≡ slot v
          → OneRequest w u v a.charge.job b.charge.job
      together u v order l first second a b mine later same =
          let number : mine.number ≡ later.number = sym (ap number_of mine.request) ∙ same ∙ ap number_of later.request in
          paid.one u v mine.number mine.resource later.resource order l first second a b mine.request
          (later.request ∙ ap (λ k. Asking k later.resource) (sym number))

-- The same where z is in the request at the tick that counts.
pub record PaidBy (charges : Charges) (w : Trace) (bound : ℕ → ℕ) (n j z : ℕ) (f : ColumnDef → ℕ) (g : ℕ → ℕ) (ok : ℕ
    → Bool) : Type 0 where
  pub below : (t : ℕ) → t < window_end w bound n j → g t ≤ brings charges w f j t
  pub own : (t : ℕ) → t < window_end w bound n j → 0 < g t → Hit charges w f j t → OwnRequest w t z ok
  pub one : (u v k q r : ℕ) → u ≤ v → v < window_end w bound n j → 0 < g u → 0 < g v → (a : Hit charges w f j u)
      → (b : Hit charges w f j v) → phase_of w u z ≡ Asking k q → phase_of w v z ≡ Asking k r → OneRequest w u v a.charge.job b.charge.job

pub paid_by : (charges : Charges) (w : Trace) (bound : ℕ → ℕ) (n j z s : ℕ) (share : ℕ → ℕ → ℕ) (f : ColumnDef → ℕ) (g : ℕ → ℕ) (ok : ℕ
    → Bool) → Window charges w bound n j → Shares w s share f → z < length w.jobs → PaidBy charges w bound n j z f g ok
    → sum_below (window_end w bound n j) g
    ≤ s * sum_below (length w.set.resources) (λ q. only_if (ok q) (count_of w.set (task_of w z) q))
paid_by charges w bound n j z s share f g ok window shares listed paid =
    paid_at charges w bound n j z s share f g ok (λ t. t) window shares listed
    (record { below = paid.below; own = paid.own; one = paid.one })

-- The same for requests of one resource.
pub record PaidByEach (charges : Charges) (w : Trace) (bound : ℕ → ℕ) (n j z q : ℕ) (f : ColumnDef → ℕ) (g : ℕ → ℕ) : Type 0 where
  pub below : (t : ℕ) → t < window_end w bound n j → g t ≤ brings charges w f j t
  pub asks : (t : ℕ) → t < window_end w bound n j → 0 < g t → Hit charges w f j t → (m : ℕ) × (phase_of w t z ≡ Asking m q)
  pub one : (u v m : ℕ) → u ≤ v → v < window_end w bound n j → 0 < g u → 0 < g v → (a : Hit charges w f j u)
      → (b : Hit charges w f j v) → phase_of w u z ≡ Asking m q → phase_of w v z ≡ Asking m q → OneRequest w u v a.charge.job b.charge.job

pub paid_by_each : (charges : Charges) (w : Trace) (bound : ℕ → ℕ) (n j z q s : ℕ) (share : ℕ → ℕ → ℕ) (f : ColumnDef → ℕ) (g : ℕ → ℕ)
    → Window charges w bound n j → Shares w s share f → z < length w.jobs → PaidByEach charges w bound n j z q f g
    → sum_below (window_end w bound n j) g ≤ count_of w.set (task_of w z) q * s
paid_by_each charges w bound n j z q s share f g window shares listed paid =
    omega (
      arith,
      paid_by charges w bound n j z s share f g (λ r. r == q) window shares listed
          (record {
            below = paid.below;
            own = λ t l some h. let a : (m : ℕ) × (phase_of w t z ≡ Asking m q) = paid.asks t l some h in
                record { number = a.0; resource = q; request = a.1; passes = eq-eqb q q refl };
            one = λ u v k a b order l first second g h early late. paid.one u v k order l first second g h
                (of_q u k a (paid.asks u (omega arith) first g) early) (of_q v k b (paid.asks v l second h) late);
          }),
      mul-le-mul_left s (sum_below-only (length w.set.resources) q (count_of w.set (task_of w z))),
      mul_comm s (count_of w.set (task_of w z) q),
    ) where
      of_q : (t k r : ℕ) → (m : ℕ) × (phase_of w t z ≡ Asking m q) → phase_of w t z ≡ Asking k r → phase_of w t z ≡ Asking k q
      of_q t k r a e = let x : Asking k r ≡ Asking a.0 q = sym e ∙ a.1 in let resource : r ≡ q = cc in e ∙ ap (Asking k) resource

-- Each request of the job itself, of a resource that passes, pays for one request.
pub by_number : (charges : Charges) (w : Trace) (bound : ℕ → ℕ) (n j s : ℕ) (share : ℕ → ℕ → ℕ) (f : ColumnDef → ℕ) (ok : ℕ → Bool)
    → Window charges w bound n j → Shares w s share f
    → ((t : ℕ) → t < window_end w bound n j → Hit charges w f j t → OwnRequest w t j ok)
    → ((u v k q r : ℕ) → u ≤ v → v < window_end w bound n j → (a : Hit charges w f j u) → (b : Hit charges w f j v)
    → phase_of w u j ≡ Asking k q → phase_of w v j ≡ Asking k r → OneRequest w u v a.charge.job b.charge.job)
    → sum_below (window_end w bound n j) (λ t. brings charges w f j t)
    ≤ s * sum_below (length w.set.resources) (λ q. only_if (ok q) (count_of w.set (task_of w j) q))
by_number charges w bound n j s share f ok window shares own one =
    paid_by charges w bound n j j s share f (λ t. brings charges w f j t) ok window shares window.listed
    (record {
      below = λ t l. omega arith;
      own = λ t l some h. own t l h;
      one = λ u v k q r order l first second a b early late. one u v k q r order l a b early late;
    })

-- The same for the requests of one resource.
pub by_number_of : (charges : Charges) (w : Trace) (bound : ℕ → ℕ) (n j q s : ℕ) (share : ℕ → ℕ → ℕ) (f : ColumnDef → ℕ)
    → Window charges w bound n j → Shares w s share f
    → ((t : ℕ) → t < window_end w bound n j → Hit charges w f j t → OwnRequest w t j (λ r. r == q))
    → ((u v k a b : ℕ) → u ≤ v → v < window_end w bound n j → (g : Hit charges w f j u) → (h : Hit charges w f j v)
    → phase_of w u j ≡ Asking k a → phase_of w v j ≡ Asking k b → OneRequest w u v g.charge.job h.charge.job)
    → sum_below (window_end w bound n j) (λ t. brings charges w f j t) ≤ s * count_of w.set (task_of w j) q
by_number_of charges w bound n j q s share f window shares own one =
    let number : sum_below (length w.set.resources) (λ r. only_if (r == q) (count_of w.set (task_of w j) r))
    ≤ count_of w.set (task_of w j) q = sum_below-only (length w.set.resources) q (count_of w.set (task_of w j)) in
    omega (arith, by_number charges w bound n j s share f (λ r. r == q) window shares own one, mul-le-mul_left s number)
