-- Windows of waits never shrink where bounds rise.
use Rattle.std.proofs.Common.{◌≡◌, ℕ, suc, ◌+◌, ◌*◌, ◌<◌, ◌≤◌, length, arith, Some}
use Rattle.std.proofs.Math.Nat.{mul-le-mul_left, mul-le-mul_right}
use Rattle.number_laws.specs.Sums.{sum_below, only_if}
use Rattle.number_laws.proofs.SumLaws.{sum_below-monotone}
use Rattle.number_laws.proofs.OnlyIfLaws.{only_if-rises}
use Rattle.sporadic_model.specs.SetDef.{SetDef, task_at}
use Rattle.sporadic_model.specs.Users.{count_of, length_of}
use Rattle.program_sources.proofs.RecurrenceLaws.{div_ceil_rises}
use Rattle.blocking_columns.specs.Windows.{jobs_during, requests_during}
use Rattle.window_laws.proofs.Least.{Found}
use Rattle.window_laws.proofs.Enough.{found_if_fewer}
use Rattle.window_laws.proofs.Rising.{IsBelow}
use Rattle.mpcp_window_laws.specs.MpcpWindows.{longest_first, may_run_instead, holdings_beside, time_first}
use Rattle.mpcp_window_laws.specs.MpcpWindows.{own_ticks, ticks_instead, ticks_held, is_enough_wait, wait_window}

pub jobs_rise : (set : SetDef) (r s : ℕ → ℕ) (v w x : ℕ) → v ≤ w → r x ≤ s x → jobs_during set r v x ≤ jobs_during set s w x
jobs_rise set r s v w x more h =
    div_ceil_rises (v + (r x + (task_at set x).jitter)) (w + (s x + (task_at set x).jitter)) (task_at set x).period (omega (arith, more, h))

holdings_rise : (set : SetDef) (r s : ℕ → ℕ) (i q v w x : ℕ) → i < length set.tasks → v ≤ w → IsBelow set r s
    → holdings_beside set r i q v x ≤ holdings_beside set s i q w x
holdings_rise set r s i q v w x known more below =
    sum_below-monotone i (λ y. only_if (may_run_instead set i y x) (requests_during set r v y q))
    (λ y. only_if (may_run_instead set i y x) (requests_during set s w y q))
    (λ y l. only_if-rises (may_run_instead set i y x) (requests_during set r v y q) (requests_during set s w y q)
    (λ may. mul-le-mul_left (count_of set y q) (jobs_rise set r s v w y more (below y (omega (arith, l, known))))))

instead_rise : (set : SetDef) (r s : ℕ → ℕ) (i q v w x : ℕ) → i < length set.tasks → v ≤ w → IsBelow set r s → x < length set.tasks
    → ticks_instead set r i q v x ≤ ticks_instead set s i q w x
instead_rise set r s i q v w x known more below l =
    omega (
      arith,
      mul-le-mul_right (longest_first set x q) (holdings_rise set r s i q v w x known more below),
      mul-le-mul_right (time_first set x q) (jobs_rise set r s v w x more (below x l)),
    )

-- In more ticks, and at greater bounds, a resource is held no less.
pub ticks_held_rise : (set : SetDef) (r s : ℕ → ℕ) (i q v w : ℕ) → i < length set.tasks → v ≤ w → IsBelow set r s
    → ticks_held set r i q v ≤ ticks_held set s i q w
ticks_held_rise set r s i q v w known more below =
    let own : sum_below i (own_ticks set r q v) ≤ sum_below i (own_ticks set s q w) =
    sum_below-monotone i (own_ticks set r q v) (own_ticks set s q w)
    (λ x l. mul-le-mul_right (count_of set x q * length_of set x q) (jobs_rise set r s v w x more (below x (omega (arith, l, known))))) in
    let instead : sum_below (length set.tasks) (ticks_instead set r i q v) ≤ sum_below (length set.tasks) (ticks_instead set s i q w) =
    sum_below-monotone (length set.tasks) (ticks_instead set r i q v) (ticks_instead set s i q w)
    (λ x l. instead_rise set r s i q v w x known more below l) in
    omega (arith, own, instead)

-- So if there is a window at greater bounds, there is one, which isn't greater.
pub window_rises : (set : SetDef) (r s : ℕ → ℕ) (i q b : ℕ) → i < length set.tasks → IsBelow set r s → wait_window set s i q ≡ Some b
    → Found (suc (task_at set i).deadline) (is_enough_wait set r i q) b
window_rises set r s i q b known below e =
    found_if_fewer (ticks_held set r i q) (ticks_held set s i q) (suc (task_at set i).deadline) b
    (λ w. ticks_held_rise set r s i q w w known (omega arith) below) e
