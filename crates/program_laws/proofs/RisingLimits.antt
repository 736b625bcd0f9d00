-- No limit of a row falls if as many jobs of each task can run or more. That is so if bounds rise.
use Rattle.std.proofs.Common.{ℕ, ◌+◌, ◌<◌, ◌≤◌, List, length, arith}
use Rattle.std.specs.Prelude.{slice_index}
use Rattle.std.specs.List.{All}
use Rattle.std.proofs.Math.Nat.{mul-le-mul_left}
use Rattle.number_laws.proofs.SumLaws.{sum_below-monotone}
use Rattle.number_laws.proofs.OnlyIfLaws.{only_if-rises}
use Rattle.sporadic_model.specs.SetDef.{SetDef, task_at}
use Rattle.sporadic_model.specs.Users.{count_of, is_user}
use Rattle.sporadic_model.specs.declared.ids.Protocol.{Protocol}
use Rattle.sporadic_model.specs.Bounds.{AtMost}
use Rattle.program_sources.proofs.RecurrenceLaws.{div_ceil_rises}
use Rattle.blocking_columns.specs.Windows.{jobs_in, requests_in}
use Rattle.direct_constraints.specs.Rows.{time_row, common_rows}
use Rattle.preempt_constraints.specs.Rows.{preemption_rows}
use Rattle.indirect_constraints.specs.Rows.{is_beside, higher_holdings, lower_holdings, holdings}
use Rattle.program_laws.specs.Written.{Rises, HasJobsAtMost, KeepsJobs}
use Rattle.program_laws.proofs.RowKinds.{EachKind, common_each, preemption_each}

-- If bounds rise, as many jobs can run or more.
pub jobs_rise : (set : SetDef) (r s : List ℕ) (i : ℕ) → i < length set.tasks → AtMost (length set.tasks) r s → HasJobsAtMost set i r s
jobs_rise set r s i here h x there = div_ceil_rises (slice_index r i + (slice_index r x + (task_at set x).jitter))
    (slice_index s i + (slice_index s x + (task_at set x).jitter)) (task_at set x).period (omega (arith, h i here, h x there))

-- If as many can run at one as at the other, no more can at either.
pub jobs_stay : (set : SetDef) (r s : List ℕ) (i : ℕ) → KeepsJobs set i r s → (HasJobsAtMost set i r s) × HasJobsAtMost set i s r
jobs_stay set r s i same = (λ x there. omega (arith, same x there), λ x there. omega (arith, same x there))

pub requests_rise : (set : SetDef) (r s : List ℕ) (i x q : ℕ) → jobs_in set (slice_index r) i x ≤ jobs_in set (slice_index s) i x
    → requests_in set (slice_index r) i x q ≤ requests_in set (slice_index s) i x q
requests_rise set r s i x q jobs = mul-le-mul_left (count_of set x q) jobs

pub holdings_rise : (set : SetDef) (r s : List ℕ) (i x : ℕ) → i < length set.tasks → HasJobsAtMost set i r s
    → holdings set (slice_index r) i x ≤ holdings set (slice_index s) i x
holdings_rise set r s i x here h = sum_below-monotone (length set.resources) _ _ (λ q l.
    let higher : higher_holdings set (slice_index r) i x q ≤ higher_holdings set (slice_index s) i x q =
    sum_below-monotone i _ _ (λ y a.
    only_if-rises (is_beside set x y) (requests_in set (slice_index r) i y q) (requests_in set (slice_index s) i y q)
    (λ counts. requests_rise set r s i y q (h y (omega arith)))) in
    only_if-rises (is_user set q i) (higher_holdings set (slice_index r) i x q + lower_holdings set i x q)
    (higher_holdings set (slice_index s) i x q + lower_holdings set i x q) (λ counts. omega (arith, higher)))

pub time_rises : (set : SetDef) (r s : List ℕ) (i x : ℕ) → jobs_in set (slice_index r) i x ≤ jobs_in set (slice_index s) i x
    → Rises r s (time_row set i x)
time_rises set r s i x jobs = mul-le-mul_left (task_at set x).cost jobs

-- The rows that every protocol has rise.
pub common_rises : (set : SetDef) (i : ℕ) (r s : List ℕ) → HasJobsAtMost set i r s → All (Rises r s) (common_rows set i)
common_rises set i r s h = common_each (Rises r s) set i (λ x q a b. requests_rise set r s i x q (h x a))
    (λ x a. time_rises set r s i x (h x a))

pub preemption_rises : (set : SetDef) (i : ℕ) (r s : List ℕ) → All (Rises r s) (preemption_rows set i)
preemption_rises set i r s = preemption_each (Rises r s) set i (λ x a local. omega arith)

pub limits_rise : (p : Protocol) (set : SetDef) (i : ℕ) (r s : List ℕ) → i < length set.tasks
    → HasJobsAtMost set i r s → EachKind (Rises r s) p set i
limits_rise p set i r s here h = record {
  request = λ x q a b. requests_rise set r s i x q (h x a);
  time = λ x a. time_rises set r s i x (h x a);
  interval = λ x a local. omega arith;
  turn = λ e x q a b. omega arith;
  queue = λ e x a. omega arith;
  lower_holder = λ e q b. omega arith;
  holding = λ e x a. holdings_rise set r s i x here h;
  home = λ e k b. omega arith;
}
