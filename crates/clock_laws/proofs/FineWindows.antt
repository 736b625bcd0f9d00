-- Windows in cycles, under any protocol. A window is the least number of ticks that is enough: at least one, and as many as are taken in
-- that many. If in k times as many cycles k times as many are taken, these are enough. So the window in cycles is at most k times as
-- long as in ticks, and no more requests run within it.
use Rattle.std.proofs.Common.{◌≡◌, ℕ, suc, ◌*◌, ◌<◌, ◌≤◌, true, arith, Some}
use Rattle.std.proofs.Math.Nat.{mul-le-mul_left}
use Rattle.number_laws.specs.Tests.{found_below}
use Rattle.number_laws.proofs.TestLaws.{found_below-is}
use Rattle.sporadic_model.specs.SetDef.{SetDef, task_at}
use Rattle.sporadic_model.specs.Users.{count_of}
use Rattle.blocking_columns.specs.Windows.{requests_during}
use Rattle.window_laws.proofs.Least.{Found, found_from}
use Rattle.window_laws.proofs.Enough.{is_enough_of, enough_is, enough_from}
use Rattle.mpcp_window_laws.proofs.Rising.{jobs_rise}
use Rattle.clock_laws.specs.Cycles.{in_cycles}
use Rattle.clock_laws.proofs.Sets.{deadline_in}
use Rattle.clock_laws.proofs.Jobs.{fine, requests_in_cycles}

pub fine_least : (k : ℕ) (set : SetDef) (i w : ℕ) (taken fine_taken : ℕ → ℕ) → 0 < k → fine_taken (k * w) ≡ k * taken w
    → found_below (suc (task_at set i).deadline) (is_enough_of taken) ≡ Some w
    → Found (suc (task_at (in_cycles k set) i).deadline) (is_enough_of fine_taken) (k * w)
fine_least k set i w taken fine_taken some times e =
    let found : (w < suc (task_at set i).deadline) × (is_enough_of taken w ≡ true) =
    found_below-is (suc (task_at set i).deadline) (is_enough_of taken) w e in
    let enough : (0 < w) × (taken w ≤ w) = enough_is taken w found.1 in
    let within : k * w ≤ k * (task_at set i).deadline = mul-le-mul_left k (omega (arith, found.0)) in
    let most : k * taken w ≤ k * w = mul-le-mul_left k enough.1 in
    let positive : k * 1 ≤ k * w = mul-le-mul_left k enough.0 in
    found_from (suc (task_at (in_cycles k set) i).deadline) (is_enough_of fine_taken) (k * w) (omega (arith, within, deadline_in k set i))
    (enough_from fine_taken (k * w) (omega (arith, some, positive)) (omega (arith, times, most)))

-- In at most k times as many cycles no more requests run.
pub fewer_in_cycles : (k : ℕ) (set : SetDef) (bounds : ℕ → ℕ) (v w x q : ℕ) → 0 < k → v ≤ k * w
    → requests_during (in_cycles k set) (fine k bounds) v x q ≤ requests_during set bounds w x q
fewer_in_cycles k set bounds v w x q some most =
    let fewer : requests_during (in_cycles k set) (fine k bounds) v x q ≤ requests_during (in_cycles k set) (fine k bounds) (k * w) x q =
    mul-le-mul_left (count_of (in_cycles k set) x q)
    (jobs_rise (in_cycles k set) (fine k bounds) (fine k bounds) v (k * w) x most (omega arith)) in
    omega (arith, fewer, requests_in_cycles k set bounds w x q some)
