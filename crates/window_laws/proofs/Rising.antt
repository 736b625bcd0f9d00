-- Windows never shrink where bounds rise, and no limit of a row of windows falls.
use Rattle.std.proofs.Common.{◌≡◌, ℕ, suc, ◌+◌, ◌*◌, ◌<◌, ◌≤◌, ◌==◌, ◌&&◌, true, false, length, refl, arith, inl, inr}
use Rattle.std.proofs.Common.{Option, Some, None, is_none}
use Rattle.std.proofs.Math.Nat.{mul-le-mul_left, mul-le-mul_right}
use Rattle.std.proofs.lemmas.Bool.{cases_Bool, and_parts, ltb-true}
use Rattle.number_laws.specs.Sums.{sum_below, only_if}
use Rattle.number_laws.proofs.SumLaws.{sum_below-monotone, sum_below-term}
use Rattle.number_laws.proofs.OnlyIfLaws.{only_if-rises}
use Rattle.number_laws.proofs.TestLaws.{any_below-none, any_below-some}
use Rattle.sporadic_model.specs.SetDef.{SetDef, task_at}
use Rattle.sporadic_model.specs.Users.{count_of, is_user}
use Rattle.sporadic_model.specs.Homes.{home_in}
use Rattle.program_sources.proofs.RecurrenceLaws.{div_ceil_rises}
use Rattle.blocking_columns.specs.Windows.{requests_in}
use Rattle.window_laws.specs.Windows.{time_at, ticks_by, ticks_there, is_enough, window_of}
use Rattle.window_laws.specs.WindowRows.{meets_there, lacks_window, requests_there, requests_met, window_row}
use Rattle.window_laws.proofs.Least.{Found}
use Rattle.window_laws.proofs.Enough.{found_if_fewer}

-- The bounds r are at most s.
abbrev pub IsBelow : SetDef → (ℕ → ℕ) → (ℕ → ℕ) → Type 0
IsBelow set r s = (x : ℕ) → x < length set.tasks → r x ≤ s x

pub ticks_by_rise : (set : SetDef) (r s : ℕ → ℕ) (k v w x : ℕ) → v ≤ w → r x ≤ s x → ticks_by set r k v x ≤ ticks_by set s k w x
ticks_by_rise set r s k v w x more h = mul-le-mul_right (time_at set x k)
    (div_ceil_rises (v + (r x + (task_at set x).jitter)) (w + (s x + (task_at set x).jitter)) (task_at set x).period (omega arith))

-- In more ticks, and at greater bounds, no less can run.
pub ticks_there_rise : (set : SetDef) (r s : ℕ → ℕ) (i q v w : ℕ) → v ≤ w → ((x : ℕ) → x < i → r x ≤ s x)
    → ticks_there set r i q v ≤ ticks_there set s i q w
ticks_there_rise set r s i q v w more h =
    let each : sum_below i (ticks_by set r (home_in set q) v) ≤ sum_below i (ticks_by set s (home_in set q) w) =
    sum_below-monotone i (ticks_by set r (home_in set q) v) (ticks_by set s (home_in set q) w)
    (λ x l. ticks_by_rise set r s (home_in set q) v w x more (h x l)) in
    omega (arith, each)

-- So where there is a window at greater bounds, there is one, which isn't greater.
pub window_below : (set : SetDef) (r s : ℕ → ℕ) (i q b : ℕ) → ((x : ℕ) → x < i → r x ≤ s x) → window_of set s i q ≡ Some b
    → Found (suc (task_at set i).deadline) (is_enough set r i q) b
window_below set r s i q b h e =
    found_if_fewer (ticks_there set r i q) (ticks_there set s i q) (suc (task_at set i).deadline) b
    (λ w. ticks_there_rise set r s i q w w (omega arith) h) e

some_of : {A : Type 0} (o : Option A) → is_none o ≡ false → (a : A) × (o ≡ Some a)
some_of None h = absurd (cc)
some_of (Some a) h = (a, refl)

-- A request at r's home has a window, where none lacks one.
pub window_there : (set : SetDef) (bounds : ℕ → ℕ) (i r q : ℕ) → q < length set.resources → lacks_window set bounds i r ≡ false
    → meets_there set i r q ≡ true → (b : ℕ) × (window_of set bounds i q ≡ Some b)
window_there set bounds i r q l none meets =
    let here : (meets_there set i r q && is_none (window_of set bounds i q)) ≡ false =
    any_below-none (length set.resources) (λ c. meets_there set i r c && is_none (window_of set bounds i c)) none q l in
    some_of (window_of set bounds i q) (rw meets at here)

-- Where there is a window at the greater bounds no more requests run within that at the lower ones.
there_rise : (set : SetDef) (r s : ℕ → ℕ) (i x p q : ℕ) → ((y : ℕ) → y < i → r y ≤ s y) → x < i
    → (b : ℕ) → window_of set s i q ≡ Some b → requests_there set r i x p q ≤ requests_there set s i x p q
there_rise set r s i x p q h l b e =
    let low : Found (suc (task_at set i).deadline) (is_enough set r i q) b = window_below set r s i q b h e in
    let lesser : window_of set r i q ≡ Some low.least = low.is_it in
    rw (e, lesser) (mul-le-mul_left (count_of set x p)
    (div_ceil_rises (low.least + (r x + (task_at set x).jitter)) (b + (s x + (task_at set x).jitter)) (task_at set x).period
    (omega (arith, h x l, low.at_most))))

pub met_rise : (set : SetDef) (r s : ℕ → ℕ) (i x p : ℕ) → ((y : ℕ) → y < i → r y ≤ s y) → x < i → lacks_window set s i p ≡ false
    → requests_met set r i x p ≤ requests_met set s i x p
met_rise set r s i x p h l none =
    sum_below-monotone (length set.resources) (λ q. only_if (meets_there set i p q) (count_of set i q * requests_there set r i x p q))
    (λ q. only_if (meets_there set i p q) (count_of set i q * requests_there set s i x p q))
    (λ q b. only_if-rises (meets_there set i p q) (count_of set i q * requests_there set r i x p q)
    (count_of set i q * requests_there set s i x p q) (λ meets.
    let at : (c : ℕ) × (window_of set s i q ≡ Some c) = window_there set s i p q b none meets in
    mul-le-mul_left (count_of set i q) (there_rise set r s i x p q h l at.0 at.1)))

requests_rise : (set : SetDef) (r s : ℕ → ℕ) (i x p : ℕ) → i < length set.tasks → x < i → IsBelow set r s
    → requests_in set r i x p ≤ requests_in set s i x p
requests_rise set r s i x p here l below = mul-le-mul_left (count_of set x p)
    (div_ceil_rises (r i + (r x + (task_at set x).jitter)) (s i + (s x + (task_at set x).jitter)) (task_at set x).period
    (omega (arith, below i here, below x (omega arith))))

none_of : {A : Type 0} (o : Option A) → is_none o ≡ true → o ≡ None
none_of None h = refl
none_of (Some a) h = absurd (cc)

-- If a request at p's home has no window, the requests met are no fewer than those that x makes while the job runs. The bound takes that
-- window's place, and the job makes at least one such request.
pub lacking : (set : SetDef) (bounds : ℕ → ℕ) (i x p : ℕ) → lacks_window set bounds i p ≡ true
    → requests_in set bounds i x p ≤ requests_met set bounds i x p
lacking set bounds i x p lacks =
    let some = any_below-some (length set.resources) (λ q. meets_there set i p q && is_none (window_of set bounds i q)) lacks in
    let parts = and_parts (meets_there set i p some.0) (is_none (window_of set bounds i some.0)) some.2 in
    let asked : 0 < count_of set i some.0 =
    ltb-true 0 (count_of set i some.0) (and_parts (is_user set some.0 i) (home_in set some.0 == home_in set p) parts.0).0 in
    let none : window_of set bounds i some.0 ≡ None = none_of (window_of set bounds i some.0) parts.1 in
    let whole : requests_there set bounds i x p some.0 ≡ requests_in set bounds i x p = rw none refl in
    let one : only_if (meets_there set i p some.0) (count_of set i some.0 * requests_there set bounds i x p some.0)
    ≡ count_of set i some.0 * requests_in set bounds i x p = rw (parts.0, whole) refl in
    let term = sum_below-term (length set.resources)
    (λ q. only_if (meets_there set i p q) (count_of set i q * requests_there set bounds i x p q)) some.0 some.1 in
    let more : 1 * requests_in set bounds i x p ≤ count_of set i some.0 * requests_in set bounds i x p =
    mul-le-mul_right (requests_in set bounds i x p) asked in
    omega (arith, one, term, more)

-- No limit of a row of windows falls where bounds rise.
pub window_limit_rises : (set : SetDef) (r s : ℕ → ℕ) (i x p : ℕ) → i < length set.tasks → x < i → IsBelow set r s
    → (window_row set i x p).limit r ≤ (window_row set i x p).limit s
window_limit_rises set r s i x p here l below = elim (cases_Bool (lacks_window set s i p)) [
  | inl lacks ↦ omega (arith, lacking set s i x p lacks, requests_rise set r s i x p here l below)
  | inr none ↦
      let h : (y : ℕ) → y < i → r y ≤ s y = λ y b. below y (omega arith) in
      omega (arith, requests_rise set r s i x p here l below, met_rise set r s i x p h l none)
]
