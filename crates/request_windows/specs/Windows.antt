-- The windows of a task's requests, for each resource.
use Rattle.std.specs.Prelude.{◌≡◌, ℕ, ◌*◌, ◌<◌, ◌≤◌, true, List, length, Option, None, IfSome, slice_index_or, unwrap_or}
use Rattle.number_laws.specs.Sums.{only_if}
use Rattle.sporadic_model.specs.SetDef.{SetDef, task_at}
use Rattle.sporadic_model.specs.Users.{is_user, count_of}
use Rattle.window_laws.specs.Windows.{window_of}
use Rattle.window_laws.specs.WindowRows.{meets_there, requests_there}

-- Is it the window of i's request of q? If there is one, it has at least a tick, and is at most i's deadline.
pub record IsWindow (set : SetDef) (bounds : ℕ → ℕ) (i q : ℕ) (window : Option ℕ) : Type 0 where
  pub value : window ≡ window_of set bounds i q
  pub within : IfSome window (λ w. (1 ≤ w) × (w ≤ (task_at set i).deadline))

-- Is it that window if i requests q, and no longer than any deadline may be if not?
pub record IsWindowIfUsed (set : SetDef) (bounds : ℕ → ℕ) (i q : ℕ) (window : Option ℕ) : Type 0 where
  pub value : is_user set q i ≡ true → window ≡ window_of set bounds i q
  pub small : unwrap_or window 0 ≤ 1000000000

-- Has each resource that task i requests the window of i's requests of it?
pub record AreWindows (set : SetDef) (bounds : ℕ → ℕ) (i : ℕ) (windows : List (Option ℕ)) : Type 0 where
  pub one_each : length windows ≡ length set.resources
  pub each : (q : ℕ) → q < length set.resources → is_user set q i ≡ true → slice_index_or windows q None ≡ window_of set bounds i q
  pub small : (q : ℕ) → q < length set.resources → unwrap_or (slice_index_or windows q None) 0 ≤ 1000000000

-- How many requests of r by jobs of x can run within the windows of all requests of q that a job of i makes, if q and r have one home?
abbrev pub requests_by : SetDef → (ℕ → ℕ) → ℕ → ℕ → ℕ → ℕ → ℕ
requests_by set bounds i x r q = only_if (meets_there set i r q) (count_of set i q * requests_there set bounds i x r q)
