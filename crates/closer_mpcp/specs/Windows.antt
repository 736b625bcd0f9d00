-- The windows of a task's requests, for each resource.
use Rattle.std.specs.Prelude.{◌≡◌, ℕ, ◌<◌, ◌≤◌, true, List, length, Option, None, IfSome, slice_index_or, unwrap_or}
use Rattle.sporadic_model.specs.SetDef.{SetDef, task_at}
use Rattle.sporadic_model.specs.Users.{is_user}
use Rattle.blocking_columns.specs.Windows.{jobs_during}
use Rattle.mpcp_window_laws.specs.MpcpWindows.{wait_window}

-- Is it the window of i's requests of q? If there is one, it has at least a tick, and is at most i's deadline.
pub record IsWindow (set : SetDef) (bounds : ℕ → ℕ) (i q : ℕ) (window : Option ℕ) : Type 0 where
  pub value : window ≡ wait_window set bounds i q
  pub within : IfSome window (λ w. (1 ≤ w) × (w ≤ (task_at set i).deadline))

-- Is it that window if i requests q, and no longer than any deadline may be if not?
pub record IsWindowIfUsed (set : SetDef) (bounds : ℕ → ℕ) (i q : ℕ) (window : Option ℕ) : Type 0 where
  pub value : is_user set q i ≡ true → window ≡ wait_window set bounds i q
  pub small : unwrap_or window 0 ≤ 1000000000

-- Has each resource that task i requests the window of i's requests of it?
pub record AreWaitWindows (set : SetDef) (bounds : ℕ → ℕ) (i : ℕ) (windows : List (Option ℕ)) : Type 0 where
  pub one_each : length windows ≡ length set.resources
  pub each : (q : ℕ) → q < length set.resources → is_user set q i ≡ true → slice_index_or windows q None ≡ wait_window set bounds i q
  pub small : (q : ℕ) → q < length set.resources → unwrap_or (slice_index_or windows q None) 0 ≤ 1000000000

-- Can exactly as many jobs of each user of q run in a span of ticks at the bounds r as at s?
abbrev pub KeepsJobsOfUsers : SetDef → (ℕ → ℕ) → (ℕ → ℕ) → ℕ → ℕ → Type 0
KeepsJobsOfUsers set r s ticks q = (x : ℕ) → x < length set.tasks → is_user set q x ≡ true
    → jobs_during set r ticks x ≡ jobs_during set s ticks x
