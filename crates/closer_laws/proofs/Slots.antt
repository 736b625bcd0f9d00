-- Rows whose limit is one more than the job has requests that pass: slots told by a number that is at most that of these requests.
use Rattle.std.proofs.Common.{◌≡◌, ℕ, suc, ◌+◌, ◌*◌, ◌<◌, ◌≤◌, Bool, true, length, refl, get_or, arith}
use Rattle.std.proofs.Math.Nat.{mul_comm, mul-le-mul_right}
use Rattle.number_laws.specs.Sums.{sum_below, flag, only_if}
use Rattle.number_laws.specs.Tests.{count_below}
use Rattle.number_laws.proofs.CountLaws.{count_below-at_most}
use Rattle.sporadic_model.specs.Users.{count_of, length_of}
use Rattle.schedule_model.specs.JobDef.{job_of, no_segment}
use Rattle.schedule_model.specs.RowDef.{Trace}
use Rattle.schedule_model.specs.Activity.{task_of}
use Rattle.blocking_columns.specs.ColumnDef.{ColumnDef}
use Rattle.charge_laws.specs.Windows.{window_end}
use Rattle.row_laws.specs.Meeting.{Charges, brings}
use Rattle.row_laws.proofs.Brings.{Window, Hit, column_with, flag_times-at_most, flag_times-passes}
use Rattle.row_laws.proofs.SlotRow.{OneRequest, slot_row}
use Rattle.row_laws.proofs.Numbers.{asks_passing, own_passing}

-- How many requests of a job pass?
abbrev pub passing_requests : Trace → (ℕ → Bool) → ℕ → ℕ
passing_requests w ok j =
    count_below (length (job_of w.jobs j).script) (λ m. asks_passing ok (get_or (job_of w.jobs j).script m no_segment))

-- What counts is a request of a column that passes.
pub hit_passes : (charges : Charges) (w : Trace) (j t : ℕ) (share : ℕ → ℕ → ℕ) (counts : ColumnDef → Bool)
    → (h : Hit charges w (λ c. flag (counts c) * share c.task c.resource) j t)
    → counts (column_with w h.charge h.resource) ≡ true
hit_passes charges w j t share counts h =
    flag_times-passes (counts (column_with w h.charge h.resource)) (share (task_of w h.charge.job) h.resource) h.some

-- Where what is charged in one slot is one request, such a row is met.
pub slots_paid : (charges : Charges) (w : Trace) (bound : ℕ → ℕ) (n j s : ℕ) (share : ℕ → ℕ → ℕ) (counts : ColumnDef → Bool) (ok : ℕ
    → Bool) (slot : ℕ → ℕ) → Window charges w bound n j → ((y q : ℕ) → share y q * length_of w.set y q ≤ s)
    → ((t : ℕ) → slot t ≤ passing_requests w ok j)
    → ((u v : ℕ) → u ≤ v → v < window_end w bound n j
    → (a : Hit charges w (λ c. flag (counts c) * share c.task c.resource) j u)
    → (b : Hit charges w (λ c. flag (counts c) * share c.task c.resource) j v)
    → slot u ≡ slot v → OneRequest w u v a.charge.job b.charge.job)
    → sum_below (window_end w bound n j) (λ t. brings charges w (λ c. flag (counts c) * share c.task c.resource) j t)
    ≤ s * (1 + sum_below (length w.set.resources) (λ q. only_if (ok q) (count_of w.set (task_of w j) q)))
slots_paid charges w bound n j s share counts ok slot window fair few one =
    let most : sum_below (window_end w bound n j) (λ t. brings charges w (λ c. flag (counts c) * share c.task c.resource) j t)
    ≤ count_below (suc (passing_requests w ok j)) (λ k. true) * s =
    slot_row charges w bound n j (suc (passing_requests w ok j)) s share (λ c. flag (counts c) * share c.task c.resource) slot (λ k. true)
    window (record { within = λ t l h. omega (arith, few t); passes = λ t l h. refl; one = one })
    (record { fair = fair; small = λ c. flag_times-at_most (counts c) (share c.task c.resource) }) in
    let own : passing_requests w ok j
    ≤ sum_below (length w.set.resources) (λ q. only_if (ok q) (count_of w.set (task_of w j) q)) =
    own_passing w.set ok (job_of w.jobs j) (window.lawful.each j window.listed) in
    let number : count_below (suc (passing_requests w ok j)) (λ k. true)
    ≤ 1 + sum_below (length w.set.resources) (λ q. only_if (ok q) (count_of w.set (task_of w j) q)) =
    omega (arith, count_below-at_most (suc (passing_requests w ok j)) (λ k. true), own) in
    omega (
      arith,
      most,
      mul-le-mul_right s number,
      mul_comm (1 + sum_below (length w.set.resources) (λ q. only_if (ok q) (count_of w.set (task_of w j) q))) s,
    )
