-- Ticks at which a job is in a request of one resource, counted by the request.
use Rattle.std.proofs.Common.{◌≡◌, ℕ, ◌*◌, ◌<◌, ◌≤◌, ◌==◌, Bool, true, List, length, get_or, arith}
use Rattle.std.proofs.Math.Nat.{mul-le-mul_right}
use Rattle.number_laws.specs.Sums.{sum_below, only_if}
use Rattle.number_laws.specs.Tests.{count_below}
use Rattle.number_laws.proofs.ListCounts.{count_by-places}
use Rattle.sporadic_model.specs.Users.{count_of}
use Rattle.schedule_model.specs.JobDef.{SegmentDef, job_of, no_segment, asks_for, number_of_requests}
use Rattle.schedule_model.specs.LawfulJobs.{IsLawfulJob}
use Rattle.schedule_model.specs.RowDef.{Trace}
use Rattle.schedule_model.specs.Phase.{phase_of}
use Rattle.schedule_model.specs.Phase.Phase.{Asking}
use Rattle.schedule_model.specs.Activity.{task_of}
use Rattle.schedule_laws.proofs.Segments.{RequestAt, open_segment}
use Rattle.row_laws.proofs.Brings.{sum_below-passing}
use Rattle.row_laws.proofs.Numbers.{number_of}

-- Let job z be in a request of q at each tick that counts, and let the ticks of one request count at most c. Then all count at most c for
-- each request of q that z may make.
pub by_own_request : (w : Trace) (span z q c : ℕ) (at g : ℕ → ℕ) → IsLawfulJob w.set (job_of w.jobs z)
    → ((d : ℕ) → d < span → 0 < g d → (m : ℕ) × (phase_of w (at d) z ≡ Asking m q))
    → ((k : ℕ) → sum_below span (λ d. only_if (number_of (phase_of w (at d) z) == k) (g d)) ≤ c)
    → sum_below span g ≤ count_of w.set (task_of w z) q * c
by_own_request w span z q c at g lawful in_request most =
    let all : sum_below span g ≤ count_below (length script) asks * c =
    sum_below-passing span (length script) c (λ d. number_of (phase_of w (at d) z)) g asks (λ d l some. within d l some)
    (λ k l passes. most k) in
    let number : number_of_requests script q ≡ count_below (length script) asks = count_by-places (asks_for q) no_segment script in
    let fewer : count_below (length script) asks ≤ count_of w.set (task_of w z) q = omega (arith, number, lawful.count q) in
    omega (arith, all, mul-le-mul_right c fewer) where
      script : List SegmentDef
      script = (job_of w.jobs z).script

      asks : ℕ → Bool
      asks = λ k. asks_for q (get_or script k no_segment)

      within : (d : ℕ) → d < span → 0 < g d
          → (number_of (phase_of w (at d) z) < length script) × (asks (number_of (phase_of w (at d) z)) ≡ true)
      within d l some =
          let a : (m : ℕ) × (phase_of w (at d) z ≡ Asking m q) = in_request d l some in
          let segment : RequestAt script a.0 q = open_segment w (at d) z a.0 q a.1 in
          rw a.1 (segment.within, segment.asks)
